use Rattle.std.proofs.Common.{◌≡◌, ℕ, ◌+◌, ◌<◌, true, false, pos, length, rules}
use Rattle.std.specs.List.{HoldsAt}
use Rattle.numbering.proofs.Elements.{sequential_decides}
use Rattle.numbering.proofs.questions.has_sequential_ids.Goals as goal

pub returns : goal.returns
returns g c =
    let f = g.T.Identified.id in
    let fs = c.args.fields.now in
    let kept : c.all.result ≡ true → (k : ℕ) → k < length fs → HoldsAt (λ x. f x ≡ pos (1000 + k)) fs k = search rules in
    let broken : c.all.result ≡ false → (k : ℕ) × (k < length fs) × HoldsAt (λ x. f x ≡ pos (1000 + k) → ⊥) fs k = search rules in
    sequential_decides f fs _ kept broken
