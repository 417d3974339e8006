-- As many fields as were taken are there, with their ids.
use Rattle.std.proofs.Common.{◌≡◌, length, take}
use Rattle.partitions.specs.Views.{papers}
use Rattle.closed.specs.Bare.{bares}
use Rattle.closed.specs.Opened.{openeds, ids_of}
use Rattle.closed.proofs.spec.closes.fill.Given as goal

abbrev pub invariant-loop-field : goal.invariant-loop-field
invariant-loop-field l = (length l.closed ≡ length l.yielded) × (bares (openeds l.closed) ≡ bares (papers (take (length l.yielded) l.fields))) × (ids_of l.closed ≡ take (length l.yielded) l.ids)
