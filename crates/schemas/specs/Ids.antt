-- Equality of ids as a test, an id among others, and ids of which none repeats. Assumes nothing.
use Rattle.std.specs.Prelude.{ℕ, ◌<◌, Bool, false, ◌||◌, List, [], ◌∷◌, length, ℤ, pos, negsuc, ◌==◌, ◌≢◌, slice_index_or}

abbrev pub same : ℤ → ℤ → Bool
same (pos a) (pos b) = a == b
same (pos a) (negsuc b) = false
same (negsuc a) (pos b) = false
same (negsuc a) (negsuc b) = a == b

abbrev pub has : List ℤ → ℤ → Bool
has [] id = false
has (x ∷ xs) id = same x id || has xs id

abbrev pub Distinct : List ℤ → Type 0
Distinct ids = (i j : ℕ) → i < j → j < length ids → slice_index_or ids i (pos 0) ≢ slice_index_or ids j (pos 0)
