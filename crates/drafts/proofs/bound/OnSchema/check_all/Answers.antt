-- Each turn passes a field that the columns admit.
use Rattle.std.proofs.Common.{◌≡◌, false, Ok, Err, Result, MatchResult, is_ok, sym, ap, ◌∙◌, subst, rules, tests}
use Rattle.std.proofs.lemmas.Result.{err_from_is_err_and}
use Rattle.std.proofs.lemmas.Bool.{false≢true}
use Rattle.partitions.specs.Views.{papers, seen}
use Rattle.partitions.specs.declared.batch.BatchFault.{BatchFault}
use Rattle.partitions.specs.declared.batch.BatchCause.TheVariants.{Add}
use Rattle.closed.proofs.Closings.{accepted_of}
use Rattle.drafts.specs.BoundAdds.{AdmitsAll}
use Rattle.drafts.proofs.Admitting.{one_more, not_admitted, all_admitted}
use Rattle.drafts.proofs.bound.OnSchema.check_all.Goals as goal

pub loop-index-preserved : goal.loop-index-preserved
loop-index-preserved g c =
    let kept = accepted_of _ c.check_source.result c.in_ok-map_err.ensures.variant c.check_source.ensures in
    one_more (g.S.Schema.columns c.args.self.now.schema.now) c.args.fields.now c.loop-index.index-counter c.index-fields-index.result c.loop-index-test.true c.index-fields-index.is c.loop-index.invariant
    (seen c.view.result) c.view.ensures kept.1

-- the fault that was mapped, and what it became
both : {T E : Type 0} (P A : T → Type 0) {Q B : E → Type 0} (r : Result T E) → false ≡ is_ok r → MatchResult r P Q → MatchResult r A B → (e : E) × Q e × B e
both P A (Ok x) f p a = absurd (false≢true f)
both P A (Err e) f p a = (e, p, a)

pub returns-in_err-map_err : goal.returns-in_err-map_err
returns-in_err-map_err g c =
    let w = both _ _ c.check_source.result c.in_err-map_err.ensures.variant c.check_source.ensures c.in_err-map_err.ensures.cases in
    let told : BatchFault = record { index = c.loop-index.index-counter; cause = Add w.0 } in
    let post = w.2 in
    let is : c.in_err-map_err.field-0.0 ≡ told = search (rules, tests) in
    let p = err_from_is_err_and {Q = λ e. e ≡ c.in_err-map_err.field-0.0} c.from_residual.result c.from_residual.ensures.1 in
    subst (AdmitsAll (g.S.Schema.columns c.args.self.now.schema.now) (papers c.args.fields.now)) (sym (p.1 ∙ ap Err (p.2 ∙ is)))
    (not_admitted (g.S.Schema.columns c.args.self.now.schema.now) c.args.fields.now c.loop-index.index-counter c.index-fields-index.result c.loop-index-test.true c.index-fields-index.is c.loop-index.invariant
    (seen c.view.result) c.view.ensures w.0 w.1)

pub returns : goal.returns
returns g c = all_admitted (g.S.Schema.columns c.args.self.now.schema.now) c.args.fields.now c.loop-index.index-counter c.loop-index-test.false c.loop-index.invariant
