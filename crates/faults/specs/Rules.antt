-- The first broken rule of an ordered list decides a refusal. Assumes nothing.
use Rattle.std.specs.Prelude.{◌≡◌, ℕ, ◌⊎◌, List, [], ◌∷◌, Option, MatchOption}
use Rattle.faults.specs.Told.{Told}

-- a rule has a number, and says at which value (a length, an index) it is broken
pub record Rule : Type 1 where
  pub number : ℕ
  pub Broken : Option ℕ → Type 0

-- a rule that is broken or not, and tells no value
abbrev pub rule : ℕ → Type 0 → Rule
rule number P = record { number = number; Broken = λ v. MatchOption v P (λ _. ⊥) }

-- a rule that is broken at a value
abbrev pub rule_at : ℕ → (ℕ → Type 0) → Rule
rule_at number P = record { number = number; Broken = λ v. MatchOption v ⊥ P }

abbrev pub Kept : Rule → Type 0
Kept r = (v : Option ℕ) → r.Broken v → ⊥

-- the rule that is told is broken, and each before it is kept
abbrev pub FirstBroken : List Rule → Told → Type 0
FirstBroken [] t = ⊥
FirstBroken (r ∷ rules) t = ((t.number ≡ r.number) × r.Broken t.value) ⊎ (Kept r × FirstBroken rules t)

abbrev pub AllKept : List Rule → Type 0
AllKept [] = Unit {0}
AllKept (r ∷ rules) = Kept r × AllKept rules
