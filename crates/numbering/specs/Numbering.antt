-- Which ids the fields of a draft get. A draft is here what its fields state: `Some n` for the id n, `None` for no id. Assumes nothing.
use Rattle.std.specs.Prelude.{◌≡◌, ℕ, ◌<◌, List, map, length, get_or, take, ℤ, pos, ◌≤ℤ◌, ◌<ℤ◌, Some, None, Option, ◌≢◌, slice_index_or}
use Rattle.std.specs.List.{ContainsAt as Has, AllByRecursion}

-- n has the property, and no smaller number has it
abbrev pub Least : (ℤ → Type 0) → ℤ → Type 0
Least P n = P n × ((m : ℤ) → P m → n ≤ℤ m)

-- a number that a field may be given after the ids of the earlier fields
pub record Permitted (start : ℤ) (draft : List (Option ℤ)) (earlier : List ℤ) (n : ℤ) : Type 0 where
  pub fits : n ≤ℤ pos 2147483647
  pub past_start : start <ℤ n
  pub past_earlier : AllByRecursion (λ id. id <ℤ n) earlier
  pub unstated : Has draft (Some n) → ⊥

-- the ids of the first k fields: what a field states, and at a field that states none its least permitted number
pub record Numbered (start : ℤ) (draft : List (Option ℤ)) (k : ℕ) (ids : List ℤ) : Type 0 where
  pub size : length ids ≡ k
  pub stated : (i : ℕ) (n : ℤ) → i < k → slice_index_or draft i None ≡ Some n → slice_index_or ids i (pos 0) ≡ n
  pub given : (i : ℕ) → i < k → slice_index_or draft i None ≡ None → Least (Permitted start draft (take i ids)) (slice_index_or ids i (pos 0))

-- the ids of all fields
abbrev pub Numbering : ℤ → List (Option ℤ) → List ℤ → Type 0
Numbering start draft ids = Numbered start draft (length draft) ids

-- the field at the place wants an id, those before it have these ids, and then no number is permitted
pub record Stuck (start : ℤ) (draft : List (Option ℤ)) (place : ℕ) (before : List ℤ) : Type 0 where
  pub inside : place < length draft
  pub wants : get_or draft place None ≡ None
  pub numbered : Numbered start draft place before
  pub none : (n : ℤ) → Permitted start draft before n → ⊥

-- no number is stated at two places
abbrev pub StatedOnce : List (Option ℤ) → Type 0
StatedOnce draft = (i j : ℕ) (n : ℤ) → i < j → j < length draft → slice_index_or draft i None ≡ Some n → slice_index_or draft j None ≢ Some n

-- every field states its id, and these are they
abbrev pub AllState : List (Option ℤ) → List ℤ → Type 0
AllState draft ids = draft ≡ map Some ids
