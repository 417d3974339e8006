-- What a draft is on paper, and which answer a result is. Assumes nothing.
use Rattle.std.specs.Prelude.{Some, None, Ok, Err, Result}
use Rattle.partitions.specs.BatchFaults.{batch_told}
use Rattle.partitions.specs.DraftFaults.{told}
use Rattle.partitions.specs.Listed.{listed}
use Rattle.partitions.specs.declared.batch.BatchFault.{BatchFault}
use Rattle.partitions.specs.declared.fault.DraftFault.{DraftFault}
use Rattle.drafts.specs.Calls.{Answer}
use Rattle.drafts.specs.Paper.{Paper}
use Rattle.drafts.specs.declared.builder.PartitionSpecBuilder.{PartitionSpecBuilder}

abbrev pub paper : PartitionSpecBuilder → Paper
paper d = record { spec_id = d.spec_id; start = d.last_assigned_field_id; fields = listed d.fields }

abbrev pub answer_of : Result (Unit {0}) DraftFault → Answer
answer_of (Ok u) = None
answer_of (Err fault) = Some (told fault)

abbrev pub batch_answer_of : Result (Unit {0}) BatchFault → Answer
batch_answer_of (Ok u) = None
batch_answer_of (Err fault) = Some (batch_told fault)
