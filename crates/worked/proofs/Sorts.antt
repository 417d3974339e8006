-- The sort orders worked by hand, rule by rule. Assumes nothing.
use Rattle.std.proofs.Common.{◌≡◌, ℕ, [], ◌∷◌, pos, Some, None, sym, refl, inl, inr, arith, lit<}
use Rattle.std.proofs.lemmas.Bool.{false≢true}
use Rattle.faults.specs.Rules.{AllKept}
use Rattle.faults.proofs.Firsts.{keeps}
use Rattle.sorts.specs.SortRules.{order_rules}
use Rattle.sorts.specs.declared.sort.SortField.{SortField}
use Rattle.transforms.specs.declared.transform.Transform.TheVariants.{Bucket, Void}
use Rattle.worked.specs.SortExamples.{rising, ZeroIsTheUnsortedOrder, SortedByWhatIsPrimitive}

some_none : {X : Type 0} (x : X) → Some x ≡ None → ⊥
some_none x e = let z : ◌≡◌ {A = ℕ} 0 1 = cc in omega arith

other_id : (m n : ℕ) → (m ≡ n → ⊥) → pos m ≡ pos n → ⊥
other_id m n d e = let q : m ≡ n = cc in d q

-- without an id the order's rules are kept
no_id : (field : SortField) → AllKept (order_rules None (field ∷ []))
no_id field = (keeps 31 _ (λ h. h.0), (keeps 32 _ (λ h. let z : ◌≡◌ {A = ℕ} 0 1 = cc in omega arith), tt))

pub zero_is_the_unsorted_order : ZeroIsTheUnsortedOrder
zero_is_the_unsorted_order = record {
  seven = λ old. (inl (refl, (other_id 7 0 (λ e. omega arith), refl)), refl);
  zero = λ field old. (inr (keeps 31 _ (λ h. h.0 refl), inl (refl, (refl, lit< tt))), refl);
  one = λ c field old fits. (((no_id field).0, ((no_id field).1.0, fits)), refl);
}

pub sorted_by_what_is_primitive : SortedByWhatIsPrimitive
sorted_by_what_is_primitive = record {
  list = λ old. let n = no_id (rising (pos 1) Void) in (inr (n.0, inr (n.1.0, inr (keeps 24 _ (λ e. some_none _ e), inl (refl, refl)))), refl);
  element = λ old. let n = no_id (rising (pos 2) (Bucket 16)) in ((n.0, (n.1.0, (keeps 24 _ (λ e. some_none _ e), (keeps 25 _ (λ e. false≢true (sym e)), (keeps 26 _ (λ e. some_none _ e), tt))))), refl);
}
