-- The entries that were taken are measured.
use Rattle.std.proofs.Common.{◌≡◌, ◌≤◌, length, drop}
use Rattle.records.specs.Left.{entries_left}
use Rattle.records.proofs.Bodies.{Measured}
use Rattle.records.proofs.write.body_len.Given as goal

abbrev pub invariant-loop-field : goal.invariant-loop-field
invariant-loop-field g l =
    (goal.iterator-loop-field g).can_next l.field-iterator
    × (goal.iterator-loop-field g).is_finite l.field-iterator
    × (entries_left (g.R.Recorded.plan l.field-iterator.plan.now) l.field-iterator.places.start l.field-iterator.places.end ≡ drop (length l.yielded) (g.R.Recorded.plan l.plan).fields)
    × (length l.yielded ≤ length (g.R.Recorded.plan l.plan).fields)
    × Measured (g.R.Recorded.plan l.plan).fields (length l.yielded) l.len
