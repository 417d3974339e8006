-- A hunt through a range up to the greatest number, for one that no field states. Assumes nothing.
use Rattle.std.proofs.Common.{◌≡◌, ℕ, ◌+◌, ◌<◌, Bool, true, false, List, [], ◌∷◌, ℤ, pos, negsuc, ◌+ℤ◌, ◌≤ℤ◌, ◌<ℤ◌, Some, None, Option, MatchOption, sym, refl, ap, ◌∙◌, subst, arith}
use denote.Param.Members.{Mut}
use denote.Ref.{Bor}
use Rattle.std.specs.Fn.{CalledAt}
use Rattle.std.specs.Int.{int_gap}
use Rattle.std.specs.Iterator.{Yields, FindsItem}
use Rattle.std.specs.List.{ContainsAt as Has, FoldsTo}
use Rattle.std.specs.Range.{range_inclusive_start, range_inclusive_end, range_inclusive_exhausted, range_inclusive_len, range_inclusive_steps}
use Rattle.std.specs.declared.ops.RangeInclusive.{RangeInclusive}
use Rattle.std.proofs.lemmas.Int.{ints, by_lt_z}
use Rattle.numbering.specs.Numbering.{Least, Permitted}
use Rattle.numbering.proofs.Steps.{least_free}

abbrev left : ℤ → Bool → ℕ
left a b = range_inclusive_len int_gap a (pos 2147483647) b

none_left : (a : ℤ) → left a false ≡ 0 → pos 2147483647 <ℤ a
none_left (pos a) h = omega (arith, ints)
none_left (negsuc a) h = absurd (omega arith)

some_left : (a : ℤ) → 0 < left a false → a ≤ℤ pos 2147483647
some_left (pos a) h = omega (arith, ints)
some_left (negsuc a) h = omega (arith, ints)

one_left : (a : ℤ) → left a false ≡ 1 → a ≡ pos 2147483647
one_left (pos a) h = let e : a ≡ 2147483647 = omega arith in ap pos e
one_left (negsuc a) h = absurd (omega arith)

-- each number above `last` that has come is stated, at what comes next and whether all have come
abbrev Passed : List (Option ℤ) → ℤ → ℤ → Bool → Type 0
Passed draft last a false = (last <ℤ a) × ((m : ℤ) → last <ℤ m → m <ℤ a → Has draft (Some m))
Passed draft last a true = (m : ℤ) → last <ℤ m → m ≤ℤ pos 2147483647 → Has draft (Some m)

module _ (draft : List (Option ℤ)) (last : ℤ) where
  first : (a : ℤ) → a ≡ last +ℤ pos 1 → Passed draft last a false
  first a e = (omega (arith, ints), λ m above below. absurd (between m above below))
    where
      between : (m : ℤ) → last <ℤ m → m <ℤ a → ⊥
      between m h k = omega (arith, ints)

  more : (a x next : ℤ) (b c : Bool) → Passed draft last a b → x ≡ a → left next c + 1 ≡ left a b → (c ≡ false → next ≡ a +ℤ pos 1) → Has draft (Some x) → Passed draft last next c
  more a x next true c h e l n has = absurd (omega arith)
  more a x next false false h e l n has =
      let up : last <ℤ a = h.0 in
      let is : next ≡ a +ℤ pos 1 = n refl in
      (omega (arith, ints), λ m above below. by_lt_z m a (h.1 m above) (λ past. let q : x ≡ m = omega (arith, ints) in subst (λ z. Has draft (Some z)) q has))
  more a x next false true h e l n has =
      let end : a ≡ pos 2147483647 = one_left a (sym l) in
      λ m above upto. by_lt_z m a (h.1 m above) (λ past. let q : x ≡ m = omega (arith, ints) in subst (λ z. Has draft (Some z)) q has)

  all : (a : ℤ) (b : Bool) → Passed draft last a b → left a b ≡ 0 → (n : ℤ) → Permitted last draft [] n → ⊥
  all a true h l n p = p.unstated (h n p.past_start p.fits)
  all a false h l n p = let end = none_left a l in let fits = p.fits in p.unstated (h.1 n p.past_start (omega (arith, ints)))

  here : (a x : ℤ) (b : Bool) → Passed draft last a b → x ≡ a → 0 < left a b → (Has draft (Some x) → ⊥) → Least (Permitted last draft []) x
  here a x true h e l un = absurd (omega arith)
  here a x false h e l un =
      let up : last <ℤ a = h.0 in
      let fits : a ≤ℤ pos 2147483647 = some_left a l in
      least_free draft last x (omega (arith, ints)) (omega (arith, ints)) un (λ m above below. h.1 m above (omega (arith, ints)))

  abbrev steps : RangeInclusive ℤ → Option ℤ → RangeInclusive ℤ → Type 0
  steps = range_inclusive_steps int_gap (λ x y. y ≡ x +ℤ pos 1)

  -- a range that ends at the greatest number, as far as it has come
  abbrev At : RangeInclusive ℤ → Type 0
  At s = (range_inclusive_end s ≡ pos 2147483647) × Passed draft last (range_inclusive_start s) (range_inclusive_exhausted s)

  lefts : (s : RangeInclusive ℤ) → range_inclusive_end s ≡ pos 2147483647 → range_inclusive_len int_gap (range_inclusive_start s) (range_inclusive_end s) (range_inclusive_exhausted s) ≡ left (range_inclusive_start s) (range_inclusive_exhausted s)
  lefts s e = ap (λ z. range_inclusive_len int_gap (range_inclusive_start s) z (range_inclusive_exhausted s)) e

  -- a test that stays as it was, and is false at what is stated alone
  module _ {F : Type 0} (g : Mut F (Bor ℤ × Unit {0}) Bool) (f : F) (stated : (x : ℤ) (q : F) → CalledAt g f x false q → (q ≡ f) × Has draft (Some x)) where
    came : (xs : List ℤ) (s t : RangeInclusive ℤ) (p q : F) → p ≡ f → Yields steps s xs t → FoldsTo (λ i x j. CalledAt g i x false j) p xs q → At s → (q ≡ f) × At t
    came [] s t p q is y w h = (sym w ∙ is, subst At y h)
    came (x ∷ xs) s t p q is y w h =
        let j = y.0 in
        let end : range_inclusive_end j ≡ pos 2147483647 = y.1.0 ∙ h.0 in
        let call = stated x w.0 (subst (λ i. CalledAt g i x false w.0) is w.1) in
        came xs j t w.0 q call.0 y.2 w.2 (
          end,
          more (range_inclusive_start s) x (range_inclusive_start j) (range_inclusive_exhausted s) (range_inclusive_exhausted j) h.1 y.1.1.0
              (ap (λ n. n + 1) (sym (lefts j end)) ∙ y.1.1.1 ∙ lefts s h.0) y.1.1.2 call.1,
        )

pub found : (draft : List (Option ℤ)) (last : ℤ) {F : Type 0} (g : Mut F (Bor ℤ × Unit {0}) Bool) (s u : RangeInclusive ℤ) (f : F) (r : Option ℤ) → FindsItem (range_inclusive_steps int_gap (λ x y. y ≡ x +ℤ pos 1)) g s f r u
    → range_inclusive_end s ≡ pos 2147483647 → range_inclusive_exhausted s ≡ false → range_inclusive_start s ≡ last +ℤ pos 1
    → ((x : ℤ) (q : F) → CalledAt g f x false q → (q ≡ f) × Has draft (Some x)) → ((x : ℤ) (q : F) → CalledAt g f x true q → Has draft (Some x) → ⊥)
    → MatchOption r ((n : ℤ) → Permitted last draft [] n → ⊥) (λ n. Least (Permitted last draft []) n)
found draft last g s u f None w end fresh start stated free =
    let t = w.2.0 in
    let k = came draft last g f stated w.0 s t f w.1 refl w.2.1 w.3 (end, subst (Passed draft last (range_inclusive_start s)) (sym fresh) (first draft last (range_inclusive_start s) start)) in
    all draft last (range_inclusive_start t) (range_inclusive_exhausted t) k.1.1 (sym (lefts draft last t k.1.0) ∙ w.2.2.1.0)
found draft last g s u f (Some x) w end fresh start stated free =
    let t = w.2.0 in
    let k = came draft last g f stated w.0 s t f w.1 refl w.2.1 w.3 (end, subst (Passed draft last (range_inclusive_start s)) (sym fresh) (first draft last (range_inclusive_start s) start)) in
    let some : 0 < left (range_inclusive_start t) (range_inclusive_exhausted t) = omega (arith, sym (lefts draft last t k.1.0), w.2.2.1.1) in
    here draft last (range_inclusive_start t) x (range_inclusive_exhausted t) k.1.1 w.2.2.1.0 some (free x w.4.0 (subst (λ i. CalledAt g i x true w.4.0) k.0 w.4.1))
