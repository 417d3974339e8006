-- Taking over an unbound spec: as a new draft that gets its id, if it has one, and then its fields as a batch. Assumes nothing.
use Rattle.std.specs.Prelude.{List, [], ◌∷◌, ◌++◌, map, ℤ, Some, None, Ok, Err, Option, Result}
use Rattle.schemas.specs.Columns.{Columns}
use Rattle.partitions.specs.BatchFaults.{batch_told}
use Rattle.partitions.specs.Fields.{PaperField, PaperSpec}
use Rattle.partitions.specs.declared.batch.BatchFault.{BatchFault}
use Rattle.drafts.specs.Calls.{Call, set_spec_id, add_batch, Answer}
use Rattle.drafts.specs.Drafts.{paper}
use Rattle.drafts.specs.Paper.{Paper, blank_paper, with_spec_id}
use Rattle.drafts.specs.declared.builder.PartitionSpecBuilder.{PartitionSpecBuilder}

abbrev pub id_calls : Option ℤ → List Call
id_calls None = []
id_calls (Some id) = set_spec_id id ∷ []

abbrev pub id_answers : Option ℤ → List Answer
id_answers None = []
id_answers (Some id) = None ∷ []

-- the draft that the batch is added to
abbrev pub identified : Option ℤ → Paper
identified None = blank_paper
identified (Some id) = with_spec_id id blank_paper

-- every entry of the batch is a field
abbrev pub taking_batch : Columns → List PaperField → Call
taking_batch c fs = add_batch c (map Some fs)

abbrev pub taking_calls : Columns → PaperSpec → List Call
taking_calls c s = id_calls s.spec_id ++ taking_batch c s.fields ∷ []

-- the batch's answer, and the draft after it; after a refusal nobody holds that
abbrev pub taking_answer : Result PartitionSpecBuilder BatchFault → Answer
taking_answer (Ok d) = None
taking_answer (Err fault) = Some (batch_told fault)

abbrev pub taken : Option ℤ → Result PartitionSpecBuilder BatchFault → Paper
taken id (Ok d) = paper d
taken id (Err fault) = identified id
