-- What is asked of ids that all fields have. Assumes nothing.
use Rattle.std.specs.Prelude.{◌≡◌, ℕ, ◌+◌, ◌<◌, List, length, ℤ, pos, ◌≤ℤ◌, ◌≢◌, slice_index_or}
use Rattle.std.specs.List.{ContainsAt as Has, AllByRecursion}

-- the id at place i is 1000 + i
abbrev pub Sequential : List ℤ → Type 0
Sequential ids = (i : ℕ) → i < length ids → slice_index_or ids i (pos 0) ≡ pos (1000 + i)

-- one of the ids, and none is higher
pub record Highest (ids : List ℤ) (id : ℤ) : Type 0 where
  pub one : Has ids id
  pub top : AllByRecursion (λ x. x ≤ℤ id) ids

-- no number stands at two places
abbrev pub Distinct : List ℤ → Type 0
Distinct ids = (i j : ℕ) → i < j → j < length ids → slice_index_or ids i (pos 0) ≢ slice_index_or ids j (pos 0)
