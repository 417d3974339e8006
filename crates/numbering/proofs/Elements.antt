-- What elements that are read tell of the list of what all elements tell. Assumes nothing.
use Rattle.std.proofs.Common.{◌≡◌, ℕ, ◌+◌, ◌<◌, Bool, true, false, List, [], ◌∷◌, map, length, get_or, ℤ, pos, ◌≤ℤ◌, Some, None, Decides, MatchOption, Option, sym, refl, ap, ◌∙◌, subst, arith}
use Rattle.std.specs.List.{ContainsAt as Has, HoldsAt}
use Rattle.std.proofs.lemmas.Bool.{false≢true}
use Rattle.std.proofs.lemmas.List.{get_or-map, length-map}
use Rattle.std.proofs.ByRecursion.{All-from_get_or}
use Rattle.numbering.specs.Ids.{Sequential, Highest}

one : {X : Type 0} (xs : List X) (k : ℕ) → k < length xs → X
one [] k lt = absurd (omega arith)
one (x ∷ xs) k lt = x

module _ {X Y : Type 0} (f : X → Y) (xs : List X) where
  pub told_at : (i : ℕ) (x : X) → i < length xs → x ≡ get_or xs i x → (d : Y) → get_or (map f xs) i d ≡ f x
  told_at i x lt is d = get_or-map f xs i x d lt ∙ ap f (sym is)

  -- what holds of what the element at a place tells
  holds_at : (P : Y → Type 0) (k : ℕ) → k < length xs → HoldsAt (λ x. P (f x)) xs k → HoldsAt P (map f xs) k
  holds_at P k lt h d = let x = one xs k lt in subst P (sym (get_or-map f xs k x d lt)) (h x)

  fails_at : (P : Y → Type 0) (k : ℕ) → k < length xs → HoldsAt (λ x. P (f x) → ⊥) xs k → (d : Y) → P (get_or (map f xs) k d) → ⊥
  fails_at P k lt h d p = let x = one xs k lt in h x (subst P (get_or-map f xs k x d lt) p)

  pub has_decides : (y : Y) (r : Bool) → (r ≡ true → (k : ℕ) × (k < length xs) × HoldsAt (λ x. f x ≡ y) xs k)
      → (r ≡ false → (k : ℕ) → k < length xs → HoldsAt (λ x. f x ≡ y → ⊥) xs k) → Decides r (Has (map f xs) y)
  has_decides y true found missed = let z = length-map xs f in let h = found refl in (λ _. (h.0, omega arith, holds_at (λ u. u ≡ y) h.0 h.1 h.2), λ _. refl)
  has_decides y false found missed =
      let z = length-map xs f in
      (λ e. absurd (false≢true e), λ h. let lt : h.0 < length (map f xs) = h.1 in absurd (fails_at (λ u. u ≡ y) h.0 (omega arith) (missed refl h.0 (omega arith)) y (h.2 y)))

module _ {X : Type 0} (f : X → ℤ) (xs : List X) where
  pub sequential_decides : (r : Bool) → (r ≡ true → (k : ℕ) → k < length xs → HoldsAt (λ x. f x ≡ pos (1000 + k)) xs k)
      → (r ≡ false → (k : ℕ) × (k < length xs) × HoldsAt (λ x. f x ≡ pos (1000 + k) → ⊥) xs k) → Decides r (Sequential (map f xs))
  sequential_decides true kept broken = let z = length-map xs f in (λ _ i lt. holds_at f xs (λ u. u ≡ pos (1000 + i)) i (omega arith) (kept refl i (omega arith)) (pos 0), λ _. refl)
  sequential_decides false kept broken =
      let z = length-map xs f in
      let h = broken refl in
      let lt : h.0 < length xs = h.1 in
      (λ e. absurd (false≢true e), λ s. absurd (fails_at f xs (λ u. u ≡ pos (1000 + h.0)) h.0 h.1 h.2 (pos 0) (s h.0 (omega arith))))

  pub highest_of : (r : Option ℤ)
      → MatchOption r (length xs ≡ 0) (λ m. ((k : ℕ) × (k < length xs) × HoldsAt (λ x. f x ≡ m) xs k) × ((k : ℕ) → k < length xs → HoldsAt (λ x. f x ≤ℤ m) xs k))
      → MatchOption r (length xs ≡ 0) (λ id. Highest (map f xs) id)
  highest_of None h = h
  highest_of (Some m) h =
      let z = length-map xs f in
      let lt : h.0.0 < length xs = h.0.1 in
      record {
        one = (h.0.0, omega arith, holds_at f xs (λ u. u ≡ m) h.0.0 lt h.0.2);
        top = All-from_get_or (λ x. x ≤ℤ m) (map f xs) (pos 0) (λ k l. holds_at f xs (λ u. u ≤ℤ m) k (omega arith) (h.1 k (omega arith)) (pos 0));
      }
