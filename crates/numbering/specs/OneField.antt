-- The id of one field, given the highest of the start and the ids before it. Assumes nothing.
use Rattle.std.specs.Prelude.{◌≡◌, List, [], ℤ, pos, ◌+ℤ◌, Some, None, Option}
use Rattle.numbering.specs.Numbering.{Least, Permitted}

-- what the field states, or where it states nothing the least number permitted above `last`
pub record IsId (last : ℤ) (draft : List (Option ℤ)) (field : Option ℤ) (n : ℤ) : Type 0 where
  pub stated : (m : ℤ) → field ≡ Some m → n ≡ m
  pub given : field ≡ None → Least (Permitted last draft []) n

-- the field states nothing, and no number is permitted above `last`
pub record NoId (last : ℤ) (draft : List (Option ℤ)) (field : Option ℤ) : Type 0 where
  pub wants : field ≡ None
  pub none : (n : ℤ) → Permitted last draft [] n → ⊥

-- the number after n, where there is one
abbrev pub After : ℤ → Option ℤ → Type 0
After n None = n ≡ pos 2147483647
After n (Some next) = next ≡ n +ℤ pos 1
