-- The word at the front of a text: no two of them stand there. Assumes nothing.
use Rattle.std.proofs.Common.{◌≡◌, ℕ, cond, eqb, ◌⊎◌, List, get_or, codes, sym, refl, ap, ◌∙◌, subst, inl, inr, ⊎_elim, arith}
use Rattle.std.proofs.lemmas.List.{append_cancel_left}
use Rattle.transforms.specs.declared.transform.Transform.{Transform}
use Rattle.transforms.specs.declared.transform.Transform.TheVariants.{Identity, Bucket, Truncate, Year, Month, Day, Hour, Void, Unknown}
use Rattle.texts.specs.Width.{Between, SpellsWidth}
use Rattle.texts.specs.Words.{After, Wide, Spells, NoWord}
use Rattle.texts.proofs.Dropped.{between_only}
use Rattle.texts.proofs.Numbers.{width_only}

-- texts with different first bytes differ
abbrev first : List ℕ → ℕ
first l = get_or l 0 0

after_only : (word text a b : List ℕ) → After word text a → After word text b → a ≡ b
after_only word text a b p q =
    let e = append_cancel_left word p.0 q.0 (sym p.1.0 ∙ q.1.0) in
    between_only q.0 a b (subst (λ l. Between l a) e p.1.1) q.1.1

not_both : (text a b : List ℕ) → After (codes "bucket") text a → After (codes "truncate") text b → ⊥
not_both text a b p q = let e : ◌≡◌ {A = ℕ} 98 116 = ap first (sym p.1.0 ∙ q.1.0) in omega arith

pub wide_only : (text a b : List ℕ) → Wide text a → Wide text b → a ≡ b
wide_only text a b (inl p) (inl q) = after_only (codes "bucket") text a b p q
wide_only text a b (inl p) (inr q) = absurd (not_both text a b p q)
wide_only text a b (inr p) (inl q) = absurd (not_both text b a q p)
wide_only text a b (inr p) (inr q) = after_only (codes "truncate") text a b p q

pub wide_known : (text bare : List ℕ) → Wide text bare → NoWord text → ⊥
wide_known text bare (inl p) n = n.bucket p.0 p.1.0
wide_known text bare (inr p) n = n.truncate p.0 p.1.0

wide_first : (text bare : List ℕ) → Wide text bare → (first text ≡ 98) ⊎ (first text ≡ 116)
wide_first text bare (inl p) = inl (ap first p.1.0)
wide_first text bare (inr p) = inr (ap first p.1.0)

-- the transform whose word begins with the byte
by_first : ℕ → ℕ → Transform
by_first b n = cond (eqb b 105) Identity (cond (eqb b 98) (Bucket n) (cond (eqb b 116) (Truncate n) (cond (eqb b 121) Year (cond (eqb b 109) Month (cond (eqb b 100) Day (cond (eqb b 104) Hour (cond (eqb b 118) Void Unknown)))))))

-- what a spelt text says of its transform, whose width, or else 0, is n
record Spelt (text : List ℕ) (t : Transform) : Type 0 where
  n : ℕ
  named : t ≡ by_first (first text) n
  known : NoWord text → ⊥
  wide : (((bare : List ℕ) → Wide text bare → ⊥) × (n ≡ 0)) ⊎ ((bare : List ℕ) × (Wide text bare × SpellsWidth bare n))

-- 1 at the first bytes of the words that a width follows
takes_width : ℕ → ℕ
takes_width b = cond (eqb b 98) 1 (cond (eqb b 116) 1 0)

alone : {text : List ℕ} (t : Transform) (word : List ℕ) → text ≡ word → t ≡ by_first (first word) 0 → takes_width (first word) ≡ 0 → (NoWord text → ⊥) → Spelt text t
unfolding takes_width
alone {text} t word e named none known =
    let not_wide : (bare : List ℕ) → Wide text bare → ⊥ = λ bare w.
    ⊎_elim
    (λ f. let z : ◌≡◌ {A = ℕ} 1 0 = ap takes_width (sym f ∙ ap first e) ∙ none in omega arith)
    (λ f. let z : ◌≡◌ {A = ℕ} 1 0 = ap takes_width (sym f ∙ ap first e) ∙ none in omega arith)
    (wide_first text bare w) in
    record { n = 0; named = named ∙ ap (λ l. by_first (first l) 0) (sym e); known = known; wide = inl (not_wide, refl) }

widened : {text : List ℕ} (t : Transform) (n : ℕ) (bare : List ℕ) → Wide text bare → SpellsWidth bare n → t ≡ by_first (first text) n → Spelt text t
widened {text} t n bare w s named = record { n = n; named = named; known = wide_known text bare w; wide = inr (bare, (w, s)) }

spelt : (text : List ℕ) (t : Transform) → Spells text t → Spelt text t
unfolding by_first takes_width
spelt text Identity e = alone Identity (codes "identity") e refl refl (λ w. w.fixed.identity e)
spelt text (Bucket n) s = widened (Bucket n) n s.0 (inl s.1.0) s.1.1 (ap (λ l. by_first (first l) n) (sym s.1.0.1.0))
spelt text (Truncate n) s = widened (Truncate n) n s.0 (inr s.1.0) s.1.1 (ap (λ l. by_first (first l) n) (sym s.1.0.1.0))
spelt text Year e = alone Year (codes "year") e refl refl (λ w. w.fixed.year e)
spelt text Month e = alone Month (codes "month") e refl refl (λ w. w.fixed.month e)
spelt text Day e = alone Day (codes "day") e refl refl (λ w. w.fixed.day e)
spelt text Hour e = alone Hour (codes "hour") e refl refl (λ w. w.fixed.hour e)
spelt text Void e = alone Void (codes "void") e refl refl (λ w. w.fixed.void e)
spelt text Unknown e = alone Unknown (codes "unknown") e refl refl (λ w. w.fixed.unknown e)

same_width : {text : List ℕ} {s t : Transform} (p : Spelt text s) (q : Spelt text t) → p.n ≡ q.n
same_width {text} p q =
    ⊎_elim
    (λ a. ⊎_elim (λ b. a.1 ∙ sym b.1) (λ b. absurd (a.0 b.0 b.1.0)) q.wide)
    (λ a. ⊎_elim
    (λ b. absurd (b.0 a.0 a.1.0))
    (λ b. width_only b.0 p.n q.n (subst (λ l. SpellsWidth l p.n) (wide_only text a.0 b.0 a.1.0 b.1.0) a.1.1) b.1.1)
    q.wide)
    p.wide

-- a text spells one transform only
pub spells_only : (text : List ℕ) (s t : Transform) → Spells text s → Spells text t → s ≡ t
spells_only text s t a b =
    let p = spelt text s a in
    let q = spelt text t b in
    p.named ∙ ap (by_first (first text)) (same_width p q) ∙ sym q.named

pub spells_known : (text : List ℕ) (t : Transform) → Spells text t → NoWord text → ⊥
spells_known text t a = (spelt text t a).known

-- what stands in brackets in a text that spells a transform spells a width
pub spells_wide : (text : List ℕ) (t : Transform) → Spells text t → (bare : List ℕ) → Wide text bare → (n : ℕ) × SpellsWidth bare n
spells_wide text t a bare w =
    let p = spelt text t a in
    ⊎_elim (λ x. absurd (x.0 bare w)) (λ x. (p.n, subst (λ l. SpellsWidth l p.n) (wide_only text x.0 bare x.1.0 w) x.1.1)) p.wide
