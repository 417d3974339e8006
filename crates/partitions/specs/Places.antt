-- The first place of a list where something holds, and places that are apart. Assumes nothing.
use Rattle.std.specs.Prelude.{ℕ, ◌<◌, Bool, List, length, MatchBool, Option, MatchOption, slice_index_or}

module _ {X : Type 0} where
  -- it holds at no place before n
  abbrev pub NoneBefore : (X → Type 0) → List X → ℕ → Type 0
  NoneBefore P xs n = (k : ℕ) (d : X) → k < n → P (slice_index_or xs k d) → ⊥

  abbrev pub Nowhere : (X → Type 0) → List X → Type 0
  Nowhere P xs = NoneBefore P xs (length xs)

  pub record Somewhere (P : X → Type 0) (xs : List X) : Type 0 where
    pub place : ℕ
    pub inside : place < length xs
    pub here : (d : X) → P (slice_index_or xs place d)

  -- it holds at i, and at no place before
  pub record FirstAt (P : X → Type 0) (xs : List X) (i : ℕ) : Type 0 where
    pub inside : i < length xs
    pub here : (d : X) → P (slice_index_or xs i d)
    pub before : NoneBefore P xs i

  -- what a search for the first place answers
  abbrev pub Finds : (X → Type 0) → List X → Option ℕ → Type 0
  Finds P xs r = MatchOption r (Nowhere P xs) (FirstAt P xs)

  -- what a search for some place answers
  abbrev pub Tells : (X → Type 0) → List X → Bool → Type 0
  Tells P xs r = MatchBool r (Somewhere P xs) (Nowhere P xs)

  -- two places clash
  pub record Clashing (Clash : X → X → Type 0) (xs : List X) : Type 0 where
    pub earlier : ℕ
    pub later : ℕ
    pub order : earlier < later
    pub inside : later < length xs
    pub clash : (d : X) → Clash (slice_index_or xs earlier d) (slice_index_or xs later d)

  abbrev pub Apart : (X → X → Type 0) → List X → Type 0
  Apart Clash xs = Clashing Clash xs → ⊥
