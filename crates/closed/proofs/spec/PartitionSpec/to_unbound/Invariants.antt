-- The fields before the index are there.
use Rattle.std.proofs.Common.{◌≡◌, take}
use Rattle.partitions.specs.Specs.{paper_spec}
use Rattle.closed.specs.Closed.{paper_closed}
use Rattle.closed.specs.Opened.{openeds}
use Rattle.closed.proofs.spec.PartitionSpec.to_unbound.Given as goal

abbrev pub invariant-loop-field : goal.invariant-loop-field
invariant-loop-field l = ((paper_spec l.unbound).spec_id ≡ (paper_closed l.self).spec_id) × ((paper_spec l.unbound).fields ≡ take l.field-index (openeds l.fields))
