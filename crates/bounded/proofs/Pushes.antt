-- A list behind which an item was put, or which had no room, is no longer than it may be. Assumes nothing.
use Rattle.std.proofs.Common.{◌≡◌, ℕ, ◌+◌, ◌<◌, ◌≤◌, List, [], ◌∷◌, ◌++◌, length, Result, Ok, Err, MatchResult, ap, ◌∙◌, arith}
use Rattle.std.proofs.lemmas.List.{length_push}
use Rattle.bounded.specs.declared.Full.{Full}

pub few_pushed : {A : Type 0} (most : ℕ) (old after : List A) (x : A) (r : Result (Unit {0}) Full)
    → MatchResult r (λ _. (length old < most) × (after ≡ old ++ x ∷ [])) (λ _. (length old ≡ most) × (after ≡ old)) → length after ≤ most
few_pushed most old after x (Ok u) p = let n = ap length p.1 ∙ length_push old x in let few = p.0 in omega (arith, n, few)
few_pushed most old after x (Err f) p = let n = ap length p.1 in let full = p.0 in omega (arith, n, full)
