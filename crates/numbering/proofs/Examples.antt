-- The numberings worked by hand, field by field. Assumes nothing.
use Rattle.std.proofs.Common.{◌≡◌, ℕ, ◌+◌, List, [], ◌∷◌, ◌++◌, get_or, ℤ, pos, negsuc, ◌+ℤ◌, ◌≤ℤ◌, ◌<ℤ◌, Some, None, Option, sym, refl, ◌∙◌, subst, arith, lit<}
use Rattle.std.specs.List.{ContainsAt as Has, AllByRecursion}
use Rattle.std.proofs.lemmas.Int.{ints}
use Rattle.std.proofs.ByRecursion.{all-has, has_get_or}
use Rattle.numbering.specs.Numbering.{Least, Permitted, Numbered, Numbering}
use Rattle.numbering.specs.Examples.{LaterStatedIsPassed, CountsOnFromStated, GreatestIsGiven, CountsThroughNegatives}
use Rattle.std.proofs.lemmas.Option.{none-some, same_Some}
use Rattle.numbering.proofs.Steps.{Tops, tops_none, tops_more, least_after, least_free, numbered_none, numbered_more}

module _ (start : ℤ) (draft : List (Option ℤ)) (k : ℕ) (ids : List ℤ) (a : Numbered start draft k ids) (n : ℤ) where
  -- the next field states n
  keep : get_or draft k None ≡ Some n → Numbered start draft (k + 1) (ids ++ n ∷ [])
  keep e = numbered_more start draft k ids a n (λ m q. same_Some n m (sym e ∙ q)) (λ q. absurd (none-some n (sym q ∙ e)))

  -- the next field states nothing and gets n
  give : get_or draft k None ≡ None → (top : ℤ) → Tops start ids top → Least (Permitted top draft []) n → Numbered start draft (k + 1) (ids ++ n ∷ [])
  give e top t l = numbered_more start draft k ids a n (λ m q. absurd (none-some m (sym e ∙ q))) (λ _. least_after start ids top t draft n l)

unstated : (draft : List (Option ℤ)) (n : ℤ) → AllByRecursion (λ o. o ≡ Some n → ⊥) draft → Has draft (Some n) → ⊥
unstated draft n all h = all-has (λ (o : Option ℤ). o ≡ Some n → ⊥) draft (Some n) all h refl

-- the number after `last`, where no field states it
next : (draft : List (Option ℤ)) (last n : ℤ) → n ≡ last +ℤ pos 1 → n ≤ℤ pos 2147483647 → AllByRecursion (λ o. o ≡ Some n → ⊥) draft → Least (Permitted last draft []) n
next draft last n is fits un = least_free draft last n fits (omega (arith, ints)) (unstated draft n un)
    (λ m a b. absurd (between m a b))
  where
    between : (m : ℤ) → last <ℤ m → m <ℤ n → ⊥
    between m a b = omega (arith, ints)

-- the number after the start is stated by the second field, so the first gets the one after that
module _ (start second first : ℤ) (after : second ≡ start +ℤ pos 1) (is : first ≡ second +ℤ pos 1) (fits : first ≤ℤ pos 2147483647) where
  least : Least (Permitted start (None ∷ Some second ∷ []) []) first
  least = least_free (None ∷ Some second ∷ []) start first fits (omega (arith, ints))
      (unstated (None ∷ Some second ∷ []) first (λ e. none-some first e, (λ e. let q : second ≡ first = same_Some second first e in omega (arith, ints), tt)))
      (λ m a b. let q : second ≡ m = omega (arith, ints) in subst (λ z. Has (None ∷ Some second ∷ []) (Some z)) q (has_get_or (None ∷ Some second ∷ []) 1 None (lit< tt)))

  passes : Numbering start (None ∷ Some second ∷ []) (first ∷ second ∷ [])
  passes = keep start (None ∷ Some second ∷ []) 1 (first ∷ []) (give start (None ∷ Some second ∷ []) 0 [] (numbered_none start (None ∷ Some second ∷ [])) first refl start (tops_none start) least) second refl

pub later_stated_is_passed : LaterStatedIsPassed
later_stated_is_passed = passes (pos 999) (pos 1000) (pos 1001) refl refl (omega (arith, ints))

pub greatest_is_given : GreatestIsGiven
greatest_is_given = passes (pos 2147483645) (pos 2147483646) (pos 2147483647) refl refl (omega (arith, ints))

pub counts_on_from_stated : CountsOnFromStated
counts_on_from_stated =
    give (pos 999) (Some (pos 1005) ∷ None ∷ []) 1 (pos 1005 ∷ [])
    (keep (pos 999) (Some (pos 1005) ∷ None ∷ []) 0 [] (numbered_none (pos 999) (Some (pos 1005) ∷ None ∷ [])) (pos 1005) refl)
    (pos 1006) refl (pos 1005) (tops_more (pos 999) [] (pos 999) (tops_none (pos 999)) (pos 1005))
    (next (Some (pos 1005) ∷ None ∷ []) (pos 1005) (pos 1006) refl (omega (arith, ints))
    (λ e. let q : pos 1005 ≡ pos 1006 = same_Some (pos 1005) (pos 1006) e in omega (arith, ints), (λ e. none-some (pos 1006) e, tt)))

pub counts_through_negatives : CountsThroughNegatives
counts_through_negatives =
    give (negsuc 2) (None ∷ None ∷ []) 1 (negsuc 1 ∷ [])
    (give (negsuc 2) (None ∷ None ∷ []) 0 [] (numbered_none (negsuc 2) (None ∷ None ∷ [])) (negsuc 1) refl (negsuc 2) (tops_none (negsuc 2))
    (next (None ∷ None ∷ []) (negsuc 2) (negsuc 1) refl (omega (arith, ints)) (none (negsuc 1))))
    (negsuc 0) refl (negsuc 1) (tops_more (negsuc 2) [] (negsuc 2) (tops_none (negsuc 2)) (negsuc 1))
    (next (None ∷ None ∷ []) (negsuc 1) (negsuc 0) refl (omega (arith, ints)) (none (negsuc 0)))
  where
    none : (n : ℤ) → AllByRecursion (λ o. o ≡ Some n → ⊥) (None ∷ None ∷ [])
    none n = (λ e. none-some n e, (λ e. none-some n e, tt))
