-- Equal ids and equal fields, on paper.
use Rattle.std.proofs.Common.{◌≡◌, ◌&&◌, ap, ◌∙◌, rules}
use Rattle.std.specs.Cmp.Lexicographic.{pointwise}
use Rattle.partitions.specs.Equals.{field_eq}
use Rattle.partitions.specs.Specs.{paper_spec}
use Rattle.partitions.specs.Views.{paper_field}
use Rattle.partitions.proofs.Same.{fields_decided, spec_eq-Decides, views_computed, views_decided, specs_decided}
use Rattle.partitions.proofs.spec.UnboundPartitionSpecPartialEq.eq.Goals as goal

pub returns-then-eq-clause-decides : goal.returns-then-eq-clause-decides
returns-then-eq-clause-decides c =
    let ids : c.args.self.now.spec_id ≡ c.args.other.now.spec_id = search rules in
    let d = views_decided paper_field field_eq fields_decided c.fields.result.now c.fields-then-eq.result.now c.eq-then-eq.result c.eq-then-eq.ensures in
    specs_decided (paper_spec c.args.self.now) (paper_spec c.args.other.now) _ _ c.eq-then-eq.result ids c.fields.ensures.same c.fields-then-eq.ensures.same d

pub returns-then-eq-clause-value : goal.returns-then-eq-clause-value
returns-then-eq-clause-value c =
    let fields = views_computed paper_field field_eq fields_decided c.fields.result.now c.fields-then-eq.result.now c.args.self.now.fields.fields c.args.other.now.fields.fields c.eq-then-eq.result c.fields.ensures.same c.fields-then-eq.ensures.same c.eq-then-eq.ensures in
    fields ∙ ap (λ b. b && pointwise field_eq c.args.self.now.fields.fields c.args.other.now.fields.fields) c.if-eq.ensures

pub returns-then-eq-clause-exactly : goal.returns-then-eq-clause-exactly
returns-then-eq-clause-exactly c = spec_eq-Decides

pub returns-else-eq-clause-exactly : goal.returns-else-eq-clause-exactly
returns-else-eq-clause-exactly c = spec_eq-Decides
