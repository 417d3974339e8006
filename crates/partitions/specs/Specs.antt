-- Unbound drafts and specs on paper. Assumes nothing.
use Rattle.std.specs.Prelude.{[], None}
use Rattle.partitions.specs.Fields.{PaperSpec}
use Rattle.partitions.specs.Listed.{listed}
use Rattle.partitions.specs.declared.builder.UnboundPartitionSpecBuilder.{UnboundPartitionSpecBuilder}
use Rattle.partitions.specs.declared.spec.UnboundPartitionSpec.{UnboundPartitionSpec}

abbrev pub paper_spec : UnboundPartitionSpec → PaperSpec
paper_spec s = record { spec_id = s.spec_id; fields = listed s.fields }

abbrev pub paper_draft : UnboundPartitionSpecBuilder → PaperSpec
paper_draft d = paper_spec d.spec

-- no id, and no fields
abbrev pub blank : PaperSpec
blank = record { spec_id = None; fields = [] }
