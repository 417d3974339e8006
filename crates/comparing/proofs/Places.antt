-- Two lists beside each other, and what a view of their elements has at a place. Assumes nothing.
use Rattle.std.proofs.Common.{◌≡◌, ℕ, zero, suc, ◌<◌, ◌≤◌, min, Bool, true, false, not, eqb, List, [], ◌∷◌, length, Some, None, Option, sym, refl, ap, ◌∙◌, subst, arith}
use Rattle.std.specs.Bool.{then_some}
use Rattle.std.specs.List.{slice_get, zip, HoldsAt, AllWithin}
use Rattle.std.specs.Option.{MatchOption}
use Rattle.std.proofs.lemmas.Bool.{eq-eqb, eqb-true, false≢true, not-false}
use Rattle.std.proofs.lemmas.Slice.Zip.{length-zip}
use Rattle.partitions.specs.declared.field.UnboundPartitionField.{UnboundPartitionField}
use Rattle.partitions.specs.Equals.{field_eq}
use Rattle.partitions.proofs.Same.{fields_decided}
use Rattle.partitions.proofs.Viewed.{all_same, one_other}
use Rattle.partitions.specs.Views.{paper_field, papers}
use Rattle.comparing.specs.Partings.{PartAt}

-- what the test of a pair tells
abbrev pub Same : UnboundPartitionField × UnboundPartitionField → Type 0
Same p = false ≡ not (field_eq p.0 p.1)

abbrev pub Other : UnboundPartitionField × UnboundPartitionField → Type 0
Other p = true ≡ not (field_eq p.0 p.1)

same : (f g : UnboundPartitionField) → Same (f, g) → paper_field f ≡ paper_field g
same f g e = (fields_decided f g).0 (not-false (field_eq f g) (sym e))

other : (f g : UnboundPartitionField) → Other (f, g) → paper_field f ≡ paper_field g → ⊥
other f g e q = true≢not (field_eq f g) e ((fields_decided f g).1 q)
  where
    true≢not : (b : Bool) → true ≡ not b → b ≡ true → ⊥
    true≢not true e h = false≢true (sym e)
    true≢not false e h = false≢true h

agree : (fs gs : List UnboundPartitionField) (n : ℕ) → n ≤ length (zip fs gs) → AllWithin Same (zip fs gs) 0 n → (k : ℕ) → k < n → slice_get (papers fs) k ≡ slice_get (papers gs) k
agree [] gs n le h k lt = absurd (omega arith)
agree (f ∷ fs) [] n le h k lt = absurd (omega arith)
agree (f ∷ fs) (g ∷ gs) n le h zero lt = ap Some (same f g (h 0 (f, g) (omega arith) lt))
agree (f ∷ fs) (g ∷ gs) zero le h (suc k) lt = absurd (omega arith)
agree (f ∷ fs) (g ∷ gs) (suc n) le h (suc k) lt = agree fs gs n (omega arith) (λ j d low high. h (suc j) d (omega arith) (omega arith)) k (omega arith)

-- where one ends, the other has an element, or they are of one length
ends : (fs gs : List UnboundPartitionField) → (length fs ≡ length gs → ⊥) → slice_get (papers fs) (length (zip fs gs)) ≡ slice_get (papers gs) (length (zip fs gs)) → ⊥
ends [] [] n e = n refl
ends [] (g ∷ gs) n e = cc
ends (f ∷ fs) [] n e = cc
ends (f ∷ fs) (g ∷ gs) n e = ends fs gs (λ q. n (ap suc q)) e

-- the first pair that differs, or else the place where the shorter ends, if one is
pub first : (fs gs : List UnboundPartitionField) (o r : Option ℕ) (longer : Bool) (shared : ℕ)
    → MatchOption o (AllWithin Same (zip fs gs) 0 (length (zip fs gs))) (λ i. (i < length (zip fs gs)) × HoldsAt Other (zip fs gs) i × AllWithin Same (zip fs gs) 0 i)
    → MatchOption o (r ≡ then_some longer shared) (λ i. r ≡ Some i) → longer ≡ not (eqb (length fs) (length gs)) → shared ≡ min (length fs) (length gs)
    → MatchOption r (papers fs ≡ papers gs) (λ place. PartAt (papers fs) (papers gs) place)
first fs gs (Some i) r longer shared (lt, here, before) e l s =
    subst (λ r. MatchOption r (papers fs ≡ papers gs) (λ place. PartAt (papers fs) (papers gs) place)) (sym e) (record { before = agree fs gs i (omega arith) before; here = one_other paper_field Other other fs gs i lt here })
first fs gs None r true shared all e l s =
    let q : shared ≡ length (zip fs gs) = s ∙ sym (length-zip fs gs) in
    subst (λ r. MatchOption r (papers fs ≡ papers gs) (λ place. PartAt (papers fs) (papers gs) place)) (sym (e ∙ ap Some q))
    (record { before = agree fs gs _ (omega arith) all; here = ends fs gs (λ x. false≢true (sym (l ∙ ap not (eq-eqb _ _ x)))) })
first fs gs None r false shared all e l s =
    subst (λ r. MatchOption r (papers fs ≡ papers gs) (λ place. PartAt (papers fs) (papers gs) place)) (sym e)
    (all_same paper_field Same same fs gs (eqb-true _ _ (back (eqb (length fs) (length gs)) l)) all)
  where
    back : (b : Bool) → false ≡ not b → b ≡ true
    back true e = refl
    back false e = cc
