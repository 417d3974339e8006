-- Equal ids and equal fields, on paper.
use Rattle.std.proofs.Common.{◌≡◌, ◌&&◌, Some, sym, ap, ◌∙◌, rules}
use Rattle.std.specs.Cmp.Lexicographic.{pointwise}
use Rattle.std.proofs.lemmas.Bool.Decides.{Decides-int_eq}
use Rattle.partitions.proofs.Same.{views_decided, specs_decided, views_computed}
use Rattle.closed.specs.Closed.{paper_closed}
use Rattle.closed.specs.Equals.{field_eq}
use Rattle.closed.specs.Opened.{opened}
use Rattle.closed.proofs.Same.{field_eq-Decides, spec_eq-Decides}
use Rattle.closed.proofs.spec.compares.PartitionSpecPartialEq.eq.Goals as goal

pub returns-then-self-other-clause-decides : goal.returns-then-self-other-clause-decides
returns-then-self-other-clause-decides c =
    let ids : c.args.self.now.spec_id ≡ c.args.other.now.spec_id = search rules in
    let d = views_decided opened field_eq field_eq-Decides c.fields.result.now c.fields-then-self-other.result.now c.eq.result c.eq.ensures in
    specs_decided (paper_closed c.args.self.now) (paper_closed c.args.other.now) _ _ c.eq.result (ap Some ids) c.fields.ensures.same c.fields-then-self-other.ensures.same d

pub returns-then-self-other-clause-value : goal.returns-then-self-other-clause-value
returns-then-self-other-clause-value c =
    let fields = views_computed opened field_eq field_eq-Decides c.fields.result.now c.fields-then-self-other.result.now c.args.self.now.fields c.args.other.now.fields c.eq.result c.fields.ensures.same c.fields-then-self-other.ensures.same c.eq.ensures in
    let ids : c.args.self.now.spec_id ≡ c.args.other.now.spec_id = search rules in
    fields ∙ ap (λ b. b && pointwise field_eq c.args.self.now.fields c.args.other.now.fields) (sym ((Decides-int_eq c.args.self.now.spec_id c.args.other.now.spec_id).1 ids))

pub returns-then-self-other-clause-exactly : goal.returns-then-self-other-clause-exactly
returns-then-self-other-clause-exactly c = spec_eq-Decides

pub returns-else-self-other-clause-exactly : goal.returns-else-self-other-clause-exactly
returns-else-self-other-clause-exactly c = spec_eq-Decides
