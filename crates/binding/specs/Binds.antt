-- What binding an unbound spec answers and leaves. Assumes nothing.
use Rattle.std.specs.Prelude.{◌≡◌, Some, None, Ok, Err, Result}
use Rattle.schemas.specs.Columns.{Columns}
use Rattle.partitions.specs.BatchFaults.{batch_told}
use Rattle.partitions.specs.Fields.{PaperSpec}
use Rattle.partitions.specs.declared.fault.DraftFault.{DraftFault}
use Rattle.closed.specs.Closing.{Closes}
use Rattle.closed.specs.declared.spec.PartitionSpec.{PartitionSpec}
use Rattle.drafts.specs.Calls.{Answer, Step}
use Rattle.drafts.specs.Paper.{Paper, with_fields}
use Rattle.drafts.specs.Taking.{identified, taking_batch}
use Rattle.binding.specs.declared.fault.BindFault.{BindFault}
use Rattle.binding.specs.declared.fault.BindFault.TheVariants.{Batch, Draft}

-- a new draft with the spec's id, and then the spec's fields
abbrev pub drafted : PaperSpec → Paper
drafted s = with_fields s.fields (identified s.spec_id)

-- the fields as a batch on the new draft answer so, and leave this
abbrev pub Takes : Columns → PaperSpec → Answer → Paper → Type 0
Takes c s answer p = Step (identified s.spec_id) (taking_batch c s.fields) answer p

abbrev pub ClosesTaken : PaperSpec → PartitionSpec → PartitionSpec → Result (Unit {0}) DraftFault → Type 0
ClosesTaken s old new r = Closes (drafted s).spec_id (drafted s).start (drafted s).fields old new r

-- the batch is accepted and the draft closed; or the first of the two that is refused tells why, and the spec is as it was
abbrev pub Binds : Columns → PaperSpec → PartitionSpec → PartitionSpec → Result (Unit {0}) BindFault → Type 0
Binds c s old new (Ok u) = Takes c s None (drafted s) × ClosesTaken s old new (Ok u)
Binds c s old new (Err (Batch fault)) = Takes c s (Some (batch_told fault)) (identified s.spec_id) × (new ≡ old)
Binds c s old new (Err (Draft fault)) = Takes c s None (drafted s) × ClosesTaken s old new (Err fault)
