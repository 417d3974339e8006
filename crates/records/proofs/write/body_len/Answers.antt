-- Each turn measures one entry.
use Rattle.std.proofs.Common.{◌≡◌, length, sym, ap, ◌∙◌, refl, arith}
use Rattle.std.proofs.lemmas.List.{length_push}
use Rattle.partitions.specs.Views.{paper_field}
use Rattle.records.specs.Left.{entries_left}
use Rattle.records.proofs.Bodies.{measured_none, measured_more, measured_all}
use Rattle.records.proofs.Taken.{taken, all_taken}
use Rattle.records.proofs.write.body_len.Goals as goal

pub loop-field-init : goal.loop-field-init
loop-field-init g c =
    let it = c.entries-field-items.result in
    let e : c.into_iter-field-iterator.result ≡ it = c.into_iter-field-iterator.ensures.into_iter_gives in (
      tt,
      tt,
      ap (λ s. entries_left (g.R.Recorded.plan s.plan.now) s.places.start s.places.end) e
          ∙ ap (λ p. entries_left (g.R.Recorded.plan p) it.places.start it.places.end) c.entries-field-items.ensures.of
          ∙ c.entries-field-items.ensures.all,
      omega arith,
      measured_none (g.R.Recorded.plan c.args.plan.now).fields,
    )

pub loop-field-preserved : goal.loop-field-preserved
loop-field-preserved g c =
    let fs = (g.R.Recorded.plan c.args.plan.now).fields in
    let k = length c.loop-field.yielded in
    let many = length_push c.loop-field.yielded c.in-Some.field in
    let p = taken fs k _ (paper_field c.in-Some.field) _ many (sym c.loop-field.invariant.2 ∙ c.in-Some.ensures.steps) in (
      tt,
      tt,
      p.is,
      omega (arith, many, p.inside),
      measured_more fs k c.loop-field.len c.entry_len-len.result (paper_field c.in-Some.field) p.inside p.next _ _ many refl c.entry_len-len.ensures.len c.entry_len-len.ensures.short
          c.entry_len-len.ensures.fits c.loop-field.invariant.4,
    )

pub returns : goal.returns
returns g c =
    let fs = (g.R.Recorded.plan c.args.plan.now).fields in
    let b = c.entries-field-items.ensures.buildable in
    let few = b.few in
    let end = all_taken fs (length c.loop-field.yielded) (sym c.loop-field.invariant.2 ∙ c.in-None.ensures.steps.0) in
    let all = measured_all fs (length c.loop-field.yielded) c.loop-field.len end c.loop-field.invariant.4 in
    record { len = all.0; short = omega (arith, c.loop-field.invariant.4.short, c.loop-field.invariant.3); each = all.1; buildable = b }
