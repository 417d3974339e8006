-- The entries before the index are added.
use Rattle.partitions.specs.Batches.{entries_of}
use Rattle.partitions.specs.Listed.{listed}
use Rattle.partitions.proofs.Batching.{Sofar}
use Rattle.partitions.proofs.fields.FieldList.add_all.Given as goal

abbrev pub invariant-loop-index : goal.invariant-loop-index
invariant-loop-index g l = Sofar (g.A.Adding.rules l.adding) (listed l.initial.self) (entries_of l.batch) l.index (listed l.self)
