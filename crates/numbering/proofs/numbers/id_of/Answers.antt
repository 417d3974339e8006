use Rattle.std.proofs.Common.{◌≡◌, [], map, ℤ, Some, None, Option, List, MatchOption, sym, ◌∙◌, w32, SFits, rules}
use Rattle.numbering.specs.Numbering.{Least, Permitted}
use Rattle.numbering.specs.OneField.{IsId, NoId}
use Rattle.std.proofs.lemmas.Option.{none-some, same_Some}
use Rattle.numbering.proofs.numbers.id_of.Goals as goal

by_field : {E : Type 0} (last : ℤ) (draft : List (Option ℤ)) (field own r : Option ℤ) → own ≡ field → MatchOption own E (λ n. r ≡ Some n)
    → (E → MatchOption r ((n : ℤ) → Permitted last draft [] n → ⊥) (λ n. Least (Permitted last draft []) n))
    → MatchOption r (NoId last draft field) (λ n. IsId last draft field n)
by_field last draft field (Some x) None is e free = absurd (none-some x e)
by_field last draft field (Some x) (Some n) is e free = record { stated = λ m s. same_Some n x e ∙ same_Some x m (is ∙ s); given = λ s. absurd (none-some x (sym s ∙ sym is)) }
by_field last draft field None None is e free = record { wants = sym is; none = free e }
by_field last draft field None (Some n) is e free = record { stated = λ m s. absurd (none-some m (is ∙ s)); given = λ _. free e }

pub returns : goal.returns
returns g c =
    let draft = map g.T.Identified.id c.args.fields.now in
    let last = c.args.last in
    let fits : SFits w32 last = c.ranges.last in
    by_field last draft _ _ _ c.field_id.ensures c.or_else.ensures (λ e. search rules)
