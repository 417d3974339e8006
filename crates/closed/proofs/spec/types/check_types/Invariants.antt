-- The fields before the index have a type.
use Rattle.closed.specs.Opened.{openeds}
use Rattle.closed.specs.Typing.{KeptBefore}
use Rattle.closed.proofs.spec.types.check_types.Given as goal

abbrev pub invariant-loop-field : goal.invariant-loop-field
invariant-loop-field g l = KeptBefore (g.S.Schema.columns l.schema) (openeds l.fields) l.field-index
