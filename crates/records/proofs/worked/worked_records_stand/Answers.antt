-- The bytes are computed.
use Rattle.std.proofs.Common.{refl}
use Rattle.records.specs.Format.{entry_bytes, body_bytes, record_bytes}
use Rattle.records.proofs.worked.worked_records_stand.Goals as goal

pub returns : goal.returns
unfolding entry_bytes body_bytes record_bytes
returns c = record { blank = refl; one_day = refl }
