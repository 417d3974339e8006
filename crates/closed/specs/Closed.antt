-- Closed specs on paper: the spec that opening gives, and the ids of the fields. Assumes nothing.
use Rattle.std.specs.Prelude.{List, ℤ, Some}
use Rattle.partitions.specs.Fields.{PaperSpec}
use Rattle.closed.specs.Opened.{openeds, ids_of}
use Rattle.closed.specs.declared.spec.PartitionSpec.{PartitionSpec}

abbrev pub paper_closed : PartitionSpec → PaperSpec
paper_closed s = record { spec_id = Some s.spec_id; fields = openeds s.fields }

abbrev pub closed_ids : PartitionSpec → List ℤ
closed_ids s = ids_of s.fields
