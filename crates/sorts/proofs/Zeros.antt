-- The id 0 is the unsorted order's alone, where the rules of an id are kept.
use Rattle.std.proofs.Common.{◌≡◌, ℕ, Bool, true, false, List, [], ◌∷◌, length, ℤ, pos, Some, None, Decides, Option, sym, refl, ap, subst, ⊎_elim, arith}
use Rattle.std.proofs.lemmas.Bool.{cases_lt, false≢true}
use Rattle.faults.specs.Rules.{AllKept}
use Rattle.schemas.proofs.Identity.{same_decides}
use Rattle.schemas.specs.Ids.{same}
use Rattle.sorts.specs.declared.sort.SortField.{SortField}
use Rattle.sorts.specs.Drafts.{order_id}
use Rattle.sorts.specs.SortRules.{order_rules}
use Rattle.sorts.specs.Zero.{ZeroIsUnsorted}

by_test : {P : Type 0} (b : Bool) → Decides b P → ((P → ⊥) → ⊥) → P
by_test true d n = d.0 refl
by_test false d n = absurd (n (λ p. false≢true (d.1 p)))

zero_alone : (id : Option ℤ) (fields : List SortField) → AllKept (order_rules id fields) → ZeroIsUnsorted (order_id id fields) fields
zero_alone (Some id) fields k = (
  λ e. ⊎_elim (λ lt. absurd (k.1.0 None (ap Some e, lt))) (λ le. omega arith) (cases_lt 0 (length fields)),
  λ n. by_test (same id (pos 0)) (same_decides id (pos 0)) (λ no. k.0 None (no, n)),
)
zero_alone None [] k = (λ _. refl, λ _. refl)
zero_alone None (field ∷ fields) k = (λ e. let z : ◌≡◌ {A = ℕ} 0 1 = cc in omega arith, λ n. absurd (omega arith))

-- by what a draft states, and as an order then holds it
pub zero_after : (id : Option ℤ) (fields : List SortField) (own : ℤ) (owned : List SortField) → AllKept (order_rules id fields) → own ≡ order_id id fields → owned ≡ fields → ZeroIsUnsorted own owned
zero_after id fields own owned k p q = subst (λ i. ZeroIsUnsorted i owned) (sym p) (subst (ZeroIsUnsorted (order_id id fields)) (sym q) (zero_alone id fields k))
