use Rattle.std.proofs.Common.{◌≡◌, ℕ, ◌<◌, ◌≤ℤ◌, length, rules, MatchOption}
use Rattle.std.specs.List.{HoldsAt}
use Rattle.numbering.proofs.Elements.{highest_of}
use Rattle.numbering.proofs.questions.highest_field_id.Goals as goal

pub returns : goal.returns
returns g c =
    let f = g.T.Identified.id in
    let fs = c.args.fields.now in
    let found : MatchOption c.max.result (length fs ≡ 0) (λ m. ((k : ℕ) × (k < length fs) × HoldsAt (λ x. f x ≡ m) fs k) × ((k : ℕ) → k < length fs → HoldsAt (λ x. f x ≤ℤ m) fs k)) = search rules in
    highest_of f fs _ found
