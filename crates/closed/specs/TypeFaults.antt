-- What each refusal of a partition's type tells. Assumes nothing.
use Rattle.std.specs.Prelude.{None, codes}
use Rattle.faults.specs.Told.{Told}
use Rattle.faults.specs.declared.error.ErrorKind.TheVariants.{DataInvalid, Unexpected}
use Rattle.faults.specs.declared.error.Layer.TheVariants.{«Type» as TypeLayer}
use Rattle.transforms.specs.Results.{told as transformTold}
use Rattle.closed.specs.declared.types.TypeFault.{TypeFault}
use Rattle.closed.specs.declared.types.TypeFault.TheVariants.{MemoryShort, SourceUnknown, NoResult}

-- a transform's fault tells what it tells without a spec
abbrev pub told : TypeFault → Told
told MemoryShort = record { number = 12; kind = DataInvalid; layer = TypeLayer; reason = codes "memory-short"; value = None; index = None }
told SourceUnknown = record { number = 24; kind = Unexpected; layer = TypeLayer; reason = codes "source-unknown"; value = None; index = None }
told (NoResult fault) = transformTold fault
