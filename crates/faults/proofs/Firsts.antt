-- Ordered rules: kept, broken, and joined to a longer list; and that the first broken rule is one only. Assumes nothing.
use Rattle.std.proofs.Common.{◌≡◌, ℕ, List, [], ◌∷◌, ◌++◌, Some, None, sym, ◌∙◌, subst, inl, inr}
use Rattle.faults.specs.Told.{Told}
use Rattle.faults.specs.Rules.{Rule, rule, rule_at, Kept, AllKept, FirstBroken}

-- a rule is kept that can't be broken
pub keeps : (n : ℕ) (P : Type 0) → (P → ⊥) → Kept (rule n P)
keeps n P no-p None h = no-p h
keeps n P no-p (Some v) h = h

pub keeps_at : (n : ℕ) (Q : ℕ → Type 0) → ((v : ℕ) → Q v → ⊥) → Kept (rule_at n Q)
keeps_at n Q no-q None h = h
keeps_at n Q no-q (Some v) h = no-q v h

-- and can't be broken where it is kept
pub unbroken : (n : ℕ) (P : Type 0) → Kept (rule n P) → P → ⊥
unbroken n P k p = k None p

pub unbroken_at : (n : ℕ) (Q : ℕ → Type 0) → Kept (rule_at n Q) → (v : ℕ) → Q v → ⊥
unbroken_at n Q k v q = k (Some v) q

pub kept_join : (xs ys : List Rule) → AllKept xs → AllKept ys → AllKept (xs ++ ys)
kept_join [] ys a b = b
kept_join (x ∷ xs) ys a b = (a.0, kept_join xs ys a.1 b)

pub kept_front : (xs ys : List Rule) → AllKept (xs ++ ys) → AllKept xs
kept_front [] ys a = tt
kept_front (x ∷ xs) ys a = (a.0, kept_front xs ys a.1)

pub kept_back : (xs ys : List Rule) → AllKept (xs ++ ys) → AllKept ys
kept_back [] ys a = a
kept_back (x ∷ xs) ys a = kept_back xs ys a.1

module _ (t : Told) where
  -- what is broken first among the earlier rules is broken first of all
  pub broken_front : (xs ys : List Rule) → FirstBroken xs t → FirstBroken (xs ++ ys) t
  broken_front [] ys b = absurd b
  broken_front (x ∷ xs) ys (inl b) = inl b
  broken_front (x ∷ xs) ys (inr b) = inr (b.0, broken_front xs ys b.1)

  -- and among the later ones, where the earlier are kept
  pub broken_back : (xs ys : List Rule) → AllKept xs → FirstBroken ys t → FirstBroken (xs ++ ys) t
  broken_back [] ys a b = b
  broken_back (x ∷ xs) ys a b = inr (a.0, broken_back xs ys a.1 b)

  pub broken_after : (xs ys : List Rule) → AllKept xs → FirstBroken (xs ++ ys) t → FirstBroken ys t
  broken_after [] ys a b = b
  broken_after (x ∷ xs) ys a (inl b) = absurd (a.0 t.value b.1)
  broken_after (x ∷ xs) ys a (inr b) = broken_after xs ys a.1 b.1

  -- rules that are all kept have no first broken one
  pub not_both : (xs : List Rule) → AllKept xs → FirstBroken xs t → ⊥
  not_both [] a b = b
  not_both (x ∷ xs) a (inl b) = a.0 t.value b.1
  not_both (x ∷ xs) a (inr b) = not_both xs a.1 b.1

-- only the number and the value of what is told decide
pub same_told : (t u : Told) → t.number ≡ u.number → t.value ≡ u.value → (xs : List Rule) → FirstBroken xs t → FirstBroken xs u
same_told t u n v [] b = b
same_told t u n v (x ∷ xs) (inl b) = inl (sym n ∙ b.0, subst x.Broken v b.1)
same_told t u n v (x ∷ xs) (inr b) = inr (b.0, same_told t u n v xs b.1)

-- and of two that are told, both first, the numbers are one
pub first_number : (rules : List Rule) (a b : Told) → FirstBroken rules a → FirstBroken rules b → a.number ≡ b.number
first_number [] a b p q = absurd p
first_number (r ∷ rules) a b (inl p) (inl q) = p.0 ∙ sym q.0
first_number (r ∷ rules) a b (inl p) (inr q) = absurd (q.0 a.value p.1)
first_number (r ∷ rules) a b (inr p) (inl q) = absurd (p.0 b.value q.1)
first_number (r ∷ rules) a b (inr p) (inr q) = first_number rules a b p.1 q.1
