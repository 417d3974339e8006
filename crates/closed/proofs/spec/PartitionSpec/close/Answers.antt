-- The ids are numbered apart from the spec, and only then filled in.
use Rattle.std.proofs.Common.{◌≡◌, Err, ◌∙◌, sym, subst, rules, tests, length, take, replicate, pos, Some, refl, ap, arith, w32, SFits}
use Rattle.std.proofs.lemmas.Int.{to_z-of_z}
use Rattle.std.proofs.lemmas.List.{length-replicate}
use Rattle.numbering.specs.Numbering.{Numbering}
use Rattle.numbering.specs.Outcome.{Answered}
use Rattle.std.proofs.lemmas.Result.{err_from_is_err_and}
use Rattle.partitions.specs.declared.fault.DraftFault.TheVariants.{NoNumber}
use Rattle.partitions.specs.Listed.{listed}
use Rattle.partitions.proofs.Kept.{buildable_listed}
use Rattle.closed.specs.Closing.{ClosedAs, Closes, ClosingLaws}
use Rattle.closed.specs.Closed.{paper_closed, closed_ids}
use Rattle.closed.specs.Opened.{openeds, ids_of}
use Rattle.closed.proofs.Closings.{states, few_fields, closed_as, stuck_draft, laws_closed, laws_stuck, keeps_closed, refused_of, accepted_of}
use Rattle.closed.proofs.spec.PartitionSpec.close.Goals as goal
use Rattle.closed.proofs.spec.PartitionSpec.close.Goals.{After-fill}

pub returns-in_err-map_err : goal.returns-in_err-map_err
returns-in_err-map_err c =
    let start = c.args.start in
    let fs = c.as_slice-fields.result.now in
    let draft = listed c.args.fields.now in
    let self = c.args.self.now in
    let fits : SFits w32 c.args.start = c.ranges.start in
    let id : SFits w32 c.args.spec_id = c.ranges.spec_id in
    let few = few_fields fs c.as_slice-fields.ensures.buildable in
    let size = length-replicate 64 (pos 0) in
    let answer : Answered start (states start fs draft c.as_slice-fields.ensures.same) (replicate 64 (pos 0)) c.number.new.ids c.number.result = simp to_z-of_z at c.number.ensures.answer in
    let refused = refused_of _ c.number.result c.in_err-map_err.ensures.variant answer in
    let s = stuck_draft start fs draft c.as_slice-fields.ensures.same (replicate 64 (pos 0)) c.number.new.ids refused.0 (omega arith) refused.1 in
    let none : c.in_err-map_err.field-0.0 ≡ NoNumber = search (rules, tests) in
    let p = err_from_is_err_and {Q = λ e. e ≡ c.in_err-map_err.field-0.0} c.from_residual.result c.from_residual.ensures.1 in
    let q : c.from_residual.result ≡ Err NoNumber = p.1 ∙ ap Err (p.2 ∙ none) in
    subst
    (λ r. record { answer : Closes c.args.spec_id start draft self self r; laws : ClosingLaws start draft (paper_closed self).fields (closed_ids self) r })
    (sym q) (record { answer = (refl, s, refl); laws = laws_stuck start draft (paper_closed self).fields (closed_ids self) s })

-- what is filled in is the draft's fields, closed
module _ (c : After-fill) where
  filled : ClosedAs c.args.start (listed c.args.fields.now) (openeds c.fill.new.closed) (ids_of c.fill.new.closed)
  filled =
      let start = c.args.start in
      let fs = c.as_slice-fields.result.now in
      let draft = listed c.args.fields.now in
      let fits : SFits w32 c.args.start = c.ranges.start in
      let id : SFits w32 c.args.spec_id = c.ranges.spec_id in
      let numbers : Numbering start (states start fs draft c.as_slice-fields.ensures.same) (take (length (states start fs draft c.as_slice-fields.ensures.same)) c.number.new.ids)
      = simp to_z-of_z at (accepted_of _ c.number.result c.in_ok-map_err.ensures.variant c.number.ensures.answer).1.numbering in
      closed_as start fs draft c.as_slice-fields.ensures.same c.fill.new.closed c.number.new.ids numbers c.fill.ensures.rest c.fill.ensures.ids

pub invariant_of-self : goal.invariant_of-self
invariant_of-self c =
    let draft = listed c.args.fields.now in
    let few = few_fields c.as_slice-fields.result.now c.as_slice-fields.ensures.buildable in
    let k = keeps_closed c.args.start draft (openeds c.fill.new.closed) (ids_of c.fill.new.closed) (buildable_listed c.args.fields.now) (filled c) in
    record { few = omega (arith, c.fill.ensures.len); names = k.names; sources = k.sources; ids = k.ids }

pub returns : goal.returns
returns c =
    let fits : SFits w32 c.args.spec_id = c.ranges.spec_id in
    let closed = filled (goal.at.returns c).After-fill in
    record {
      answer = (ap Some (to_z-of_z w32 c.args.spec_id fits), closed);
      laws = laws_closed c.args.start (listed c.args.fields.now) (openeds c.fill.new.closed) (ids_of c.fill.new.closed) tt closed;
    }
