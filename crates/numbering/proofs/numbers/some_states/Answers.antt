use Rattle.std.proofs.Common.{◌≡◌, ℕ, ◌<◌, true, false, Some, length, w32, SFits, rules}
use Rattle.std.specs.List.{HoldsAt}
use Rattle.numbering.proofs.Elements.{has_decides}
use Rattle.numbering.proofs.numbers.some_states.Goals as goal

pub returns : goal.returns
returns g c =
    let f = g.T.Identified.id in
    let fs = c.args.fields.now in
    let n = c.args.n in
    let fits : SFits w32 n = c.ranges.n in
    let found : c.any.result ≡ true → (k : ℕ) × (k < length fs) × HoldsAt (λ x. f x ≡ Some n) fs k = search rules in
    let missed : c.any.result ≡ false → (k : ℕ) → k < length fs → HoldsAt (λ x. f x ≡ Some n → ⊥) fs k = search rules in
    has_decides f fs (Some n) _ found missed
