-- What writing a text to the front of an output does. Assumes nothing.
use Rattle.std.specs.Prelude.{◌≡◌, ℕ, ◌<◌, ◌≤◌, List, ◌++◌, length, drop, Result, MatchResult}
use Rattle.texts.specs.declared.print.OutputShort.{OutputShort}

-- text is at the front of what out holds after, and the rest is as it was; or it does not fit, and all is as it was
abbrev pub Wrote : List ℕ → List ℕ → List ℕ → Result ℕ OutputShort → Type 0
Wrote text out after r =
    MatchResult r (λ n. (n ≡ length text) × (n ≤ length out) × (after ≡ text ++ drop n out)) (λ _. (length out < length text) × (after ≡ out))
