-- What each refusal of a call on a draft tells. Assumes nothing.
use Rattle.std.specs.Prelude.{ℕ, List, Some, None, codes, Option}
use Rattle.faults.specs.Told.{Told}
use Rattle.faults.specs.declared.error.ErrorKind.TheVariants.{DataInvalid, PreconditionFailed}
use Rattle.faults.specs.declared.error.Layer.TheVariants.{Draft}
use Rattle.names.specs.NameRules.{told as nameTold}
use Rattle.partitions.specs.declared.fault.DraftFault.{DraftFault}
use Rattle.partitions.specs.declared.fault.DraftFault.TheVariants.{Name, NameUsed, Alike, NamedAsOtherColumn, NamedAsColumn, SourceUnknown, SourceNotPrimitive, SourceUnfit, IdUsed, Full, NoNumber, SourceNameUnknown, SourceMarked}

-- what was passed is wrong, at a value or at none
abbrev invalid : ℕ → List ℕ → Option ℕ → Told
invalid number reason value = record { number = number; kind = DataInvalid; layer = Draft; reason = reason; value = value; index = None }

-- a name's fault tells what it tells without a draft
abbrev pub told : DraftFault → Told
told (Name fault) = nameTold fault
told (NameUsed index) = invalid 20 (codes "name-used") (Some index)
told (Alike index) = invalid 21 (codes "alike") (Some index)
told NamedAsOtherColumn = invalid 22 (codes "identity-named-as-other-column") None
told NamedAsColumn = invalid 23 (codes "named-as-column") None
told SourceUnknown = invalid 24 (codes "source-unknown") None
told SourceNotPrimitive = invalid 25 (codes "source-not-primitive") None
told SourceUnfit = invalid 26 (codes "source-unfit") None
told IdUsed = invalid 27 (codes "id-used") None
told Full = record { number = 28; kind = PreconditionFailed; layer = Draft; reason = codes "full"; value = None; index = None }
told NoNumber = invalid 29 (codes "no-number") None
told SourceNameUnknown = invalid 30 (codes "source-name-unknown") None
told SourceMarked = invalid 33 (codes "source-marked") None
