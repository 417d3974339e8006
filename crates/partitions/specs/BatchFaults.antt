-- What each refusal of a batch tells. Assumes nothing.
use Rattle.std.specs.Prelude.{Some, None, codes}
use Rattle.faults.specs.Told.{Told}
use Rattle.faults.specs.declared.error.ErrorKind.TheVariants.{DataInvalid}
use Rattle.faults.specs.declared.error.Layer.TheVariants.{Batch}
use Rattle.partitions.specs.DraftFaults.{told}
use Rattle.partitions.specs.declared.batch.BatchCause.{BatchCause}
use Rattle.partitions.specs.declared.batch.BatchCause.TheVariants.{PlaceOutside, Add}
use Rattle.partitions.specs.declared.batch.BatchFault.{BatchFault}

abbrev pub cause_told : BatchCause → Told
cause_told PlaceOutside = record { number = 9; kind = DataInvalid; layer = Batch; reason = codes "place-outside"; value = None; index = None }
cause_told (Add fault) = told fault

-- what the cause tells, at the index and from the batch's layer
abbrev at : Told → BatchFault → Told
at t fault = record { number = t.number; kind = t.kind; layer = Batch; reason = t.reason; value = t.value; index = Some fault.index }

abbrev pub batch_told : BatchFault → Told
batch_told fault = at (cause_told fault.cause) fault
