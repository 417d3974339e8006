-- The questions on a closed spec, from its fields in the code to those on paper. Assumes nothing.
use Rattle.std.proofs.Common.{◌≡◌, ℕ, zero, suc, ◌<◌, Bool, true, false, List, [], ◌∷◌, refl, Decides, map, length, get_or, sym, ap, ◌∙◌, subst, arith}
use mathlib.Core.List.{map-map}
use Rattle.std.specs.Bool.{MatchBool}
use Rattle.std.specs.List.{AllByRecursion, AllWithin, HoldsAt}
use Rattle.std.proofs.lemmas.Bool.{false≢true}
use Rattle.std.proofs.lemmas.List.{get_or-map}
use Rattle.transforms.specs.declared.transform.Transform.TheVariants.{Void}
use Rattle.partitions.specs.Fields.{PaperField}
use Rattle.closed.specs.Bare.{Bare, bare, bares}
use Rattle.closed.specs.Opened.{opened, openeds}
use Rattle.closed.specs.Questions.{Unpartitioned, Compatible}
use Rattle.closed.specs.declared.field.PartitionField.{PartitionField}

-- a field that is read, on paper
pub opened_at : (fs : List PartitionField) (i : ℕ) (f : PartitionField) → i < length fs → f ≡ get_or fs i f → opened f ≡ get_or (openeds fs) i (opened f)
opened_at fs i f lt read = ap opened read ∙ sym (get_or-map opened fs i f (opened f) lt)

abbrev pub IsVoid : PartitionField → Type 0
IsVoid f = f.transform ≡ Void

all_void : (fs : List PartitionField) → AllWithin IsVoid fs 0 (length fs) → AllByRecursion (λ (p : PaperField). p.transform ≡ Void) (openeds fs)
all_void [] h = tt
all_void (f ∷ fs) h = (h 0 f (omega arith) (omega arith), all_void fs (λ k d low high. h (suc k) d (omega arith) (omega arith)))

one_not : (fs : List PartitionField) (k : ℕ) → k < length fs → HoldsAt (λ f. IsVoid f → ⊥) fs k → AllByRecursion (λ (p : PaperField). p.transform ≡ Void) (openeds fs) → ⊥
one_not [] k lt h all = absurd (omega arith)
one_not (f ∷ fs) zero lt h all = h f all.0
one_not (f ∷ fs) (suc k) lt h all = one_not fs k (omega arith) h all.1

-- by a test of each field
pub voids_decided : (fs : List PartitionField) (gs : List PaperField) (r : Bool) → openeds fs ≡ gs
    → MatchBool r (AllWithin IsVoid fs 0 (length fs)) ((k : ℕ) × (k < length fs) × HoldsAt (λ f. IsVoid f → ⊥) fs k) → Decides r (Unpartitioned gs)
voids_decided fs gs true is h = (λ _. subst Unpartitioned is (all_void fs h), λ _. refl)
voids_decided fs gs false is (k, lt, h) = (λ t. absurd (false≢true t), λ all. absurd (one_not fs k lt h (subst Unpartitioned (sym is) all)))

abbrev pub rest : PartitionField → Bare
rest f = bare (opened f)

module _ (xs ys : List PartitionField) (gs hs : List PaperField) (p : openeds xs ≡ gs) (q : openeds ys ≡ hs) where
  pub compatible_rests : Compatible gs hs → map rest xs ≡ map rest ys
  compatible_rests e = sym (map-map bare opened xs) ∙ ap bares p ∙ e ∙ sym (ap bares q) ∙ map-map bare opened ys

  pub rests_compatible : map rest xs ≡ map rest ys → Compatible gs hs
  rests_compatible e = sym (ap bares p) ∙ map-map bare opened xs ∙ e ∙ sym (map-map bare opened ys) ∙ ap bares q
