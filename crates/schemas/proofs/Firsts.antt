-- A lookup that answers at the first element that passes a test: by the list's own search, by a loop's steps, and when it finds something.
use Rattle.std.proofs.Common.{◌≡◌, ℕ, ◌+◌, ◌<◌, ◌≤◌, Bool, true, false, cond, ◌||◌, List, [], ◌∷◌, length, get_or, drop, is_some, Some, None, Decides, Option, sym, refl, ap, ◌∙◌}
use Rattle.std.specs.List.{HoldsAt, find}
use Rattle.std.specs.Option.{option_map, MatchOption, IsSomeAnd}
use Rattle.std.proofs.lemmas.List.{at_drop_all, at_drop_more}
use Rattle.std.proofs.lemmas.Bool.{cond-true, cond-false}
use Rattle.std.proofs.lemmas.Bool.Decides.{Decides-by_or}

pub record Lookup (X V : Type 0) : Type 0 where
  pub test : X → Bool
  pub value : X → V
  pub find : List X → Option V
  pub none : find [] ≡ None
  pub more : (x : X) (xs : List X) → find (x ∷ xs) ≡ cond (test x) (Some (value x)) (find xs)

-- a loop at place i, from which on what is left gives the answer
module _ {X V : Type 0} (l : Lookup X V) (xs : List X) (i : ℕ) (left : l.find (drop i xs) ≡ l.find xs) where
  step : (d : X) → i < length xs → cond (l.test (get_or xs i d)) (Some (l.value (get_or xs i d))) (l.find (drop (i + 1) xs)) ≡ l.find xs
  step d lt = sym (l.more (get_or xs i d) (drop (i + 1) xs)) ∙ sym (at_drop_more l.find xs i d lt) ∙ left

  pub first_here : (d : X) → i < length xs → true ≡ l.test (get_or xs i d) → Some (l.value (get_or xs i d)) ≡ l.find xs
  first_here d lt e = sym (cond-true _ _ _ (sym e)) ∙ step d lt

  pub first_past : (d : X) → i < length xs → false ≡ l.test (get_or xs i d) → l.find (drop (i + 1) xs) ≡ l.find xs
  first_past d lt e = sym (cond-false _ _ _ (sym e)) ∙ step d lt

  pub first_none : length xs ≤ i → None ≡ l.find xs
  first_none le = sym l.none ∙ sym (at_drop_all l.find xs i le) ∙ left

of_found : {X V : Type 0} (l : Lookup X V) (xs : List X) → option_map l.value (find l.test xs) ≡ l.find xs
of_found l [] = sym l.none
of_found {X} l (x ∷ xs) = at (l.test x) (of_found l xs) ∙ sym (l.more x xs)
  where
    at : (b : Bool) → option_map l.value (find l.test xs) ≡ l.find xs → option_map l.value (cond b (Some x) (find l.test xs)) ≡ cond b (Some (l.value x)) (l.find xs)
    at true e = refl
    at false e = e

-- it gives the value of what the list's own search finds
pub mapped : {A X V : Type 0} (l : Lookup X V) (v : A → X) (xs : List X) (o : Option A) (r : Option V) → option_map v o ≡ find l.test xs
    → MatchOption o (r ≡ None) (λ x. IsSomeAnd r (λ y. y ≡ l.value (v x))) → r ≡ l.find xs
mapped l v xs None r e m = m ∙ ap (option_map l.value) e ∙ of_found l xs
mapped l v xs (Some x) None e m = absurd m
mapped l v xs (Some x) (Some y) e m = ap Some m ∙ ap (option_map l.value) e ∙ of_found l xs

some_cond : {V : Type 0} (b : Bool) (v : V) (o : Option V) → is_some (cond b (Some v) o) ≡ (b || is_some o)
some_cond true v o = refl
some_cond false v o = refl

-- it finds something exactly when some element passes
pub found_decides : {X V : Type 0} (l : Lookup X V) (P : X → Type 0) → ((x : X) → Decides (l.test x) (P x)) → (xs : List X) → Decides (is_some (l.find xs)) ((k : ℕ) × (k < length xs) × HoldsAt P xs k)
found_decides l P each =
    Decides-by_or l.test P (λ xs. is_some (l.find xs)) each (ap is_some l.none)
    (λ x xs. ap is_some (l.more x xs) ∙ some_cond (l.test x) (l.value x) (l.find xs))
