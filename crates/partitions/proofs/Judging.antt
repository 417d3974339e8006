-- What the searches of a holder say of the rules for a new field. Assumes nothing.
use Rattle.std.proofs.Common.{◌≡◌, ℕ, ◌<◌, ◌≤◌, List, length, ℤ, Some, None, Option, sym, refl, subst, inl, inr, arith}
use Rattle.faults.specs.Rules.{rule, Kept, AllKept, FirstBroken}
use Rattle.partitions.specs.AddRules.{used_rules, last_rules}
use Rattle.partitions.specs.DraftFaults.{told}
use Rattle.partitions.specs.Fields.{PaperField, Named, AlikeOn, HasId, HasStatedId}
use Rattle.partitions.specs.Places.{Nowhere, Somewhere, FirstAt}
use Rattle.partitions.specs.declared.fault.DraftFault.TheVariants.{Alike, Full}
use Rattle.partitions.proofs.Finding.{no_first, nowhere_not}
use Rattle.faults.proofs.Firsts.{keeps, keeps_at}

module _ (fs : List PaperField) (f : PaperField) where
  pub alike_first : (i : ℕ) → Nowhere (Named f.name) fs → FirstAt (AlikeOn f.source f.transform) fs i → FirstBroken (used_rules fs f) (told (Alike i))
  alike_first i n a = inr (keeps_at 20 _ (no_first (Named f.name) fs n), inl (refl, a))

  pub neither_used : Nowhere (Named f.name) fs → Nowhere (AlikeOn f.source f.transform) fs → AllKept (used_rules fs f)
  neither_used n a = (keeps_at 20 _ (no_first (Named f.name) fs n), (keeps_at 21 _ (no_first (AlikeOn f.source f.transform) fs a), tt))

  pub unstated : f.id ≡ None → Kept (rule 27 (Somewhere (HasStatedId f.id) fs))
  unstated e = subst (λ (o : Option ℤ). Kept (rule 27 (Somewhere (HasStatedId o) fs))) (sym e) (keeps 27 _ (nowhere_not (HasStatedId None) fs (λ k d l h. h)))

  pub free : (stated : ℤ) → f.id ≡ Some stated → Nowhere (HasId stated) fs → Kept (rule 27 (Somewhere (HasStatedId f.id) fs))
  free stated e n = subst (λ (o : Option ℤ). Kept (rule 27 (Somewhere (HasStatedId o) fs))) (sym e) (keeps 27 (Somewhere (HasId stated) fs) (nowhere_not (HasId stated) fs n))

  pub full_first : 64 ≤ length fs → Kept (rule 27 (Somewhere (HasStatedId f.id) fs)) → FirstBroken (last_rules fs f) (told Full)
  full_first h k = inr (k, inl (refl, h))

  pub last_kept : length fs < 64 → Kept (rule 27 (Somewhere (HasStatedId f.id) fs)) → AllKept (last_rules fs f)
  last_kept h k = (k, (keeps 28 _ (λ l. omega arith), tt))
