-- Specs have one record exactly when they are equal. Assumes nothing.
use Rattle.std.specs.Prelude.{◌≡◌}
use Rattle.partitions.specs.Fields.{PaperSpec}
use Rattle.records.specs.Format.{record_bytes, Plan}

abbrev pub SameRecordExactlyWhenEqual : Type 0
SameRecordExactlyWhenEqual = (s t : PaperSpec) → Plan s → Plan t → (record_bytes s ≡ record_bytes t → s ≡ t) × (s ≡ t → record_bytes s ≡ record_bytes t)
