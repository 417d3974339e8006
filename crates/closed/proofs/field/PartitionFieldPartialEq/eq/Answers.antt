-- What is compared after the ids is told on paper.
use Rattle.std.proofs.Common.{◌≡◌, ◌&&◌, sym, ap, ◌∙◌, rules}
use Rattle.std.proofs.lemmas.Bool.Decides.{same_from_decides, Decides-int_eq}
use Rattle.closed.specs.Equals.{bare_eq}
use Rattle.closed.proofs.Same.{bare_eq-Decides, field_eq-Decides}
use Rattle.closed.proofs.field.PartitionFieldPartialEq.eq.Goals as goal

pub returns-then-self-other-clause-value : goal.returns-then-self-other-clause-value
returns-then-self-other-clause-value c =
    let rest = same_from_decides _ _ c.is_compatible_with.ensures (bare_eq-Decides c.args.self.now c.args.other.now) in
    let ids : c.args.self.now.field_id ≡ c.args.other.now.field_id = search rules in
    rest ∙ ap (λ b. b && bare_eq c.args.self.now c.args.other.now) (sym ((Decides-int_eq c.args.self.now.field_id c.args.other.now.field_id).1 ids))

pub returns-then-self-other-clause-exactly : goal.returns-then-self-other-clause-exactly
returns-then-self-other-clause-exactly c = field_eq-Decides

pub returns-else-self-other-clause-exactly : goal.returns-else-self-other-clause-exactly
returns-else-self-other-clause-exactly c = field_eq-Decides
