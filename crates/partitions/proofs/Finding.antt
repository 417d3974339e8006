-- A search for the first place, step by step. Assumes nothing.
use Rattle.std.proofs.Common.{◌≡◌, Bool, is_some, ℕ, zero, suc, ◌<◌, ◌≤◌, List, [], ◌∷◌, length, get_or, Some, None, Option, MatchOption, sym, subst, ⊎_elim, arith}
use Rattle.std.proofs.lemmas.List.{get_or_default}
use Rattle.std.proofs.lemmas.Bool.{cases_lt}
use Rattle.std.proofs.lemmas.Option.{slice_get-get_or}
use Rattle.std.specs.List.{slice_get}
use Rattle.std.specs.Option.{IsSomeAnd}
use Rattle.partitions.specs.Places.{NoneBefore, Nowhere, Somewhere, FirstAt, Finds, Tells}

module _ {X : Type 0} (P : X → Type 0) (xs : List X) where
  pub nowhere_not : Nowhere P xs → Somewhere P xs → ⊥
  nowhere_not n s = n s.place (first xs s.inside) s.inside (s.here (first xs s.inside))
    where
      first : (ys : List X) → s.place < length ys → X
      first [] l = absurd (omega arith)
      first (y ∷ ys) l = y

  -- what holds nowhere has no first place
  pub no_first : Nowhere P xs → (i : ℕ) → FirstAt P xs i → ⊥
  no_first n i f = nowhere_not n (record { place = i; inside = f.inside; here = f.here })

  -- and what has no first place holds nowhere
  pub none_below : ((i : ℕ) → FirstAt P xs i → ⊥) → (n : ℕ) → n ≤ length xs → NoneBefore P xs n
  none_below f zero h k d l p = omega arith
  none_below f (suc n) h k d l p =
      let before = none_below f n (omega arith) in
      ⊎_elim (λ b. before k d b p)
      (λ b. let e : k ≡ n = omega arith in f n (record { inside = h; here = λ d'. subst P (get_or_default xs n d d' h) (subst (λ j. P (get_or xs j d)) e p); before = before }))
      (cases_lt k n)

  -- a search for the first place tells whether there is some
  pub told_by_first : (r : Option ℕ) (b : Bool) → b ≡ is_some r → Finds P xs r → Tells P xs b
  told_by_first None b e n = subst (Tells P xs) (sym e) n
  told_by_first (Some i) b e f = subst (Tells P xs) (sym e) (record { place = i; inside = f.inside; here = f.here })

  pub nowhere_from : ((i : ℕ) → FirstAt P xs i → ⊥) → Nowhere P xs
  nowhere_from f = none_below f (length xs) (omega arith)

  pub nowhere_since : (Somewhere P xs → ⊥) → Nowhere P xs
  nowhere_since n k d l p = n (record { place = k; inside = l; here = λ d'. subst P (get_or_default xs k d d' l) p })

  -- what stands at the place is what is sought
  abbrev pub MeetsAt : ℕ → Type 0
  MeetsAt i = IsSomeAnd (slice_get xs i) P

  meets : (i : ℕ) (d : X) → i < length xs → P (get_or xs i d) → MeetsAt i
  meets i d l p = subst (λ o. IsSomeAnd o P) (sym (slice_get-get_or xs i d l)) p

  met : (i : ℕ) (d : X) → i < length xs → MeetsAt i → P (get_or xs i d)
  met i d l m = subst (λ o. IsSomeAnd o P) (slice_get-get_or xs i d l) m

  -- a search of all places is a search for the first
  pub first_place : (n : ℕ) → n ≡ length xs → (r : Option ℕ)
      → MatchOption r ((k : ℕ) → 0 ≤ k → k < n → MeetsAt k → ⊥) (λ i. (0 ≤ i) × (i < n) × MeetsAt i × ((k : ℕ) → 0 ≤ k → k < i → MeetsAt k → ⊥)) → Finds P xs r
  first_place n e None h = λ k d l p. h k (omega arith) (omega (arith, e)) (meets k d l p)
  first_place n e (Some i) h = record {
    inside = omega (arith, e, h.1);
    here = λ d. met i d (omega (arith, e, h.1)) h.2;
    before = λ k d l p. h.3 k (omega arith) l (meets k d (omega (arith, e, h.1)) p);
  }
