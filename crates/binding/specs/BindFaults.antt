-- What each refusal of a bind tells: what its batch or its closing tells. Assumes nothing.
use Rattle.faults.specs.Told.{Told}
use Rattle.partitions.specs.BatchFaults.{batch_told}
use Rattle.partitions.specs.DraftFaults.{told as draftTold}
use Rattle.binding.specs.declared.fault.BindFault.{BindFault}
use Rattle.binding.specs.declared.fault.BindFault.TheVariants.{Batch, Draft}

abbrev pub told : BindFault → Told
told (Batch fault) = batch_told fault
told (Draft fault) = draftTold fault
