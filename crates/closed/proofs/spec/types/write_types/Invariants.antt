-- The fields before the place are written.
use Rattle.closed.specs.Opened.{openeds}
use Rattle.closed.specs.Typing.{Typed}
use Rattle.closed.proofs.spec.types.write_types.Given as goal

abbrev pub invariant-loop-place : goal.invariant-loop-place
invariant-loop-place g l = Typed (g.S.Schema.columns l.schema) (openeds l.fields) l.place l.initial.into l.into
