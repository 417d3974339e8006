-- Two lists compared place by place by a view of their elements. Assumes nothing.
use Rattle.std.proofs.Common.{◌≡◌, ℕ, zero, suc, ◌<◌, Bool, true, false, List, [], ◌∷◌, map, length, Decides, sym, refl, ap, ◌∙◌, arith}
use Rattle.std.specs.Bool.{MatchBool}
use Rattle.std.specs.List.{slice_get, zip, HoldsAt, AllWithin}
use Rattle.std.proofs.lemmas.Bool.{false≢true}
use Rattle.std.proofs.lemmas.List.{length-map}

module _ {X Y : Type 0} (f : X → Y) (xs ys : List X) where
  pub same_views_length : map f xs ≡ map f ys → length xs ≡ length ys
  same_views_length e = sym (length-map xs f) ∙ ap length e ∙ length-map ys f

module _ {X Y : Type 0} (f : X → Y) where
  -- by what is known of each pair
  module _ (P : X × X → Type 0) (same : (x y : X) → P (x, y) → f x ≡ f y) where
    pub all_same : (xs ys : List X) → length xs ≡ length ys → AllWithin P (zip xs ys) 0 (length (zip xs ys)) → map f xs ≡ map f ys
    all_same [] [] e h = refl
    all_same [] (y ∷ ys) e h = absurd (omega arith)
    all_same (x ∷ xs) [] e h = absurd (omega arith)
    all_same (x ∷ xs) (y ∷ ys) e h =
        let first : f x ≡ f y = same x y (h 0 (x, y) (omega arith) (omega arith)) in
        let later = all_same xs ys (omega arith) (λ k d low high. h (suc k) d (omega arith) (omega arith)) in
        λ i. first i ∷ later i

  module _ (P : X × X → Type 0) (other : (x y : X) → P (x, y) → f x ≡ f y → ⊥) where
    pub one_other : (xs ys : List X) (k : ℕ) → k < length (zip xs ys) → HoldsAt P (zip xs ys) k → slice_get (map f xs) k ≡ slice_get (map f ys) k → ⊥
    one_other [] ys k lt h e = absurd (omega arith)
    one_other (x ∷ xs) [] k lt h e = absurd (omega arith)
    one_other (x ∷ xs) (y ∷ ys) zero lt h e = other x y (h (x, y)) cc
    one_other (x ∷ xs) (y ∷ ys) (suc k) lt h e = one_other xs ys k (omega arith) h e

  -- by a test of each pair, where the lists are of one length
  pub pairs_decided : (xs ys : List X) (r : Bool) → length xs ≡ length ys
      → MatchBool r (AllWithin (λ p. f p.0 ≡ f p.1) (zip xs ys) 0 (length (zip xs ys))) ((k : ℕ) × (k < length (zip xs ys)) × HoldsAt (λ p. f p.0 ≡ f p.1 → ⊥) (zip xs ys) k)
      → Decides r (map f xs ≡ map f ys)
  pairs_decided xs ys true e h = (λ _. all_same (λ p. f p.0 ≡ f p.1) (λ x y h. h) xs ys e h, λ _. refl)
  pairs_decided xs ys false e (k, lt, h) = (λ t. absurd (false≢true t), λ q. absurd (one_other (λ p. f p.0 ≡ f p.1 → ⊥) (λ x y n. n) xs ys k lt h (ap (λ l. slice_get l k) q)))
