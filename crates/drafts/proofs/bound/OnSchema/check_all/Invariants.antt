-- The columns admit the fields before the index.
use Rattle.partitions.specs.Views.{papers}
use Rattle.drafts.proofs.Admitting.{AdmittedBefore}
use Rattle.drafts.proofs.bound.OnSchema.check_all.Given as goal

abbrev pub invariant-loop-index : goal.invariant-loop-index
invariant-loop-index g l = AdmittedBefore (g.S.Schema.columns l.self.schema.now) (papers l.fields) l.index-counter
