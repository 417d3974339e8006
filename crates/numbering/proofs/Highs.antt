-- There is one highest id. Assumes nothing.
use Rattle.std.proofs.Common.{◌≡◌, List, ℤ, ◌≤ℤ◌, arith}
use Rattle.std.proofs.lemmas.Int.{ints}
use Rattle.std.proofs.ByRecursion.{all-has}
use Rattle.numbering.specs.Ids.{Highest}

pub highest_unique : (ids : List ℤ) (a b : ℤ) → Highest ids a → Highest ids b → a ≡ b
highest_unique ids a b h k =
    let p : a ≤ℤ b = all-has (λ x. x ≤ℤ b) ids a k.top h.one in
    let q : b ≤ℤ a = all-has (λ x. x ≤ℤ a) ids b h.top k.one in
    omega (arith, ints)
