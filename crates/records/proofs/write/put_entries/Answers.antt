-- Each turn lends the rest of the output to one entry.
use Rattle.std.proofs.Common.{◌≡◌, ◌+◌, length, sym, refl, ap, ◌∙◌, arith}
use Rattle.std.proofs.lemmas.List.{length_push, length-drop, take_rest}
use Rattle.partitions.specs.Views.{paper_field}
use Rattle.records.specs.Left.{entries_left}
use Rattle.records.proofs.Bodies.{laid_none, within, laid_more, laid_all}
use Rattle.records.proofs.Taken.{taken, all_taken}
use Rattle.records.proofs.write.put_entries.Goals as goal
use Rattle.records.proofs.write.put_entries.Goals.{In-Some}

pub loop-field-init : goal.loop-field-init
loop-field-init g c =
    let it = c.entries-field-items.result in
    let e : c.into_iter-field-iterator.result ≡ it = c.into_iter-field-iterator.ensures.into_iter_gives in (
      tt,
      tt,
      ap (λ s. entries_left (g.R.Recorded.plan s.plan.now) s.places.start s.places.end) e
          ∙ ap (λ p. entries_left (g.R.Recorded.plan p) it.places.start it.places.end) c.entries-field-items.ensures.of
          ∙ c.entries-field-items.ensures.all,
      laid_none (g.R.Recorded.plan c.args.plan.now).fields c.args.out.now,
    )

pub put_entry-at-requires : goal.put_entry-at-requires
put_entry-at-requires g c =
    let fs = (g.R.Recorded.plan c.args.plan.now).fields in
    let k = length c.loop-field.yielded in
    let p = taken fs k (k + 1) (paper_field c.in-Some.field) _ refl (sym c.loop-field.invariant.2 ∙ c.in-Some.ensures.steps) in
    let w = within fs k c.loop-field.at c.args.out.now c.loop-field.out (paper_field c.in-Some.field) p.inside p.next c.requires c.loop-field.invariant.3 in
    let rest = ap length (take_rest c.loop-field.out c.loop-field.at) ∙ length-drop c.loop-field.at c.loop-field.out in
    omega arith

pub loop-field-preserved : goal.loop-field-preserved
loop-field-preserved g c =
    let fs = (g.R.Recorded.plan c.args.plan.now).fields in
    let k = length c.loop-field.yielded in
    let many = length_push c.loop-field.yielded c.in-Some.field in
    let p = taken fs k _ (paper_field c.in-Some.field) _ many (sym c.loop-field.invariant.2 ∙ c.in-Some.ensures.steps) in (
      tt,
      tt,
      p.is,
      laid_more fs k c.loop-field.at c.args.out.now c.loop-field.out (paper_field c.in-Some.field) p.inside p.next c.requires c.loop-field.invariant.3 _ many c.put_entry-at.new.out _
          c.put_entry-at.result _ refl refl c.put_entry-at.ensures.len c.put_entry-at.ensures.after,
    )

pub returns : goal.returns
returns g c =
    let fs = (g.R.Recorded.plan c.args.plan.now).fields in
    let end = all_taken fs (length c.loop-field.yielded) (sym c.loop-field.invariant.2 ∙ c.in-None.ensures.steps.0) in
    let all = laid_all fs (length c.loop-field.yielded) c.loop-field.at c.args.out.now c.loop-field.out end c.loop-field.invariant.3 in
    record { len = all.0; after = all.1 }
