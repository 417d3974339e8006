-- The first broken rule of a text, and that only one fault tells it. Assumes nothing.
use Rattle.std.proofs.Common.{◌≡◌, ℕ, cond, eqb, List, ◌++◌, Some, None, Ok, Err, codes, Option, Result, sym, refl, ap, ◌∙◌, subst, inl, inr}
use Rattle.std.specs.Option.{ok_or}
use Rattle.std.specs.Result.{MatchResult}
use Rattle.faults.specs.Rules.{Rule, rule, FirstBroken, Kept, AllKept}
use Rattle.faults.proofs.Firsts.{keeps, first_number}
use Rattle.transforms.specs.declared.transform.Transform.{Transform}
use Rattle.transforms.specs.declared.transform.Transform.TheVariants.{Bucket, Truncate}
use Rattle.texts.specs.declared.fault.TextFault.{TextFault}
use Rattle.texts.specs.declared.fault.TextFault.TheVariants.{WordUnknown, WidthMissing, WidthNonDigit, WidthOverflow, NotPrinted}
use Rattle.texts.specs.Tells.{told}
use Rattle.texts.specs.Width.{SpellsWidth, Missing, Strange, TooLarge}
use Rattle.texts.specs.Steps.{FixedReading, BareReading, WidthReading}
use Rattle.texts.specs.Words.{Wide, Spells, NotBegun, NoWord}
use Rattle.texts.specs.Reading.{text_rules, LooseReading}
use Rattle.texts.proofs.Heads.{wide_only, wide_known, spells_known, spells_wide}
use Rattle.texts.proofs.Numbers.{missing_or_strange, missing_or_large, strange_or_large, missing_or_spelt, strange_or_spelt, large_or_spelt}

by_number : ℕ → TextFault
by_number n = cond (eqb n 4) WordUnknown (cond (eqb n 5) WidthMissing (cond (eqb n 6) WidthNonDigit (cond (eqb n 7) WidthOverflow NotPrinted)))

numbered : (f : TextFault) → f ≡ by_number (told f).number
unfolding by_number
numbered WordUnknown = refl
numbered WidthMissing = refl
numbered WidthNonDigit = refl
numbered WidthOverflow = refl
numbered NotPrinted = refl

pub fault_only : (rules : List Rule) (f g : TextFault) → FirstBroken rules (told f) → FirstBroken rules (told g) → f ≡ g
fault_only rules f g p q = numbered f ∙ ap by_number (first_number rules (told f) (told g) p q) ∙ sym (numbered g)

-- a rule on what the brackets hold is kept where they hold something else
kept_wide : (n : ℕ) (P : List ℕ → Type 0) (text bare : List ℕ) → Wide text bare → (P bare → ⊥) → Kept (rule n ((b : List ℕ) × (Wide text b × P b)))
kept_wide n P text bare w unlike =
    keeps n ((b : List ℕ) × (Wide text b × P b)) (λ b. unlike (subst P (wide_only text b.0 bare b.1.0 w) b.1.1))

known : (text bare : List ℕ) → Wide text bare → Kept (rule 4 (NoWord text))
known text bare w = keeps 4 (NoWord text) (wide_known text bare w)

pub refused_width : (text bare : List ℕ) → Wide text bare → (f : TextFault) → BareReading bare (Err f) → FirstBroken (text_rules text) (told f)
refused_width text bare w WordUnknown b = absurd b
refused_width text bare w WidthMissing b = inr (known text bare w, inl (refl, (bare, (w, b))))
refused_width text bare w WidthNonDigit b =
    inr (known text bare w, inr (kept_wide 5 Missing text bare w (λ m. missing_or_strange bare m b), inl (refl, (bare, (w, b)))))
refused_width text bare w WidthOverflow b =
    inr (
      known text bare w,
      inr (
        kept_wide 5 Missing text bare w (λ m. missing_or_large bare m b),
        inr (kept_wide 6 Strange text bare w (λ s. strange_or_large bare s b), inl (refl, (bare, (w, b)))),
      ),
    )
refused_width text bare w NotPrinted b = absurd b

-- a word and a width after it, read so or refused
pub bucket_read : (text rest : List ℕ) (r : Result ℕ TextFault) (o : Result Transform TextFault)
    → WidthReading rest r → text ≡ codes "bucket" ++ rest → MatchResult r (λ n. o ≡ Ok (Bucket n)) (λ f. o ≡ Err f) → LooseReading text o
bucket_read text rest (Ok n) o w e m = subst (LooseReading text) (sym m) (w.0, ((rest, (e, w.1.0)), w.1.1))
bucket_read text rest (Err f) o w e m = subst (LooseReading text) (sym m) (refused_width text w.0 (inl (rest, (e, w.1.0))) f w.1.1)

pub truncate_read : (text rest : List ℕ) (r : Result ℕ TextFault) (o : Result Transform TextFault)
    → WidthReading rest r → text ≡ codes "truncate" ++ rest → MatchResult r (λ n. o ≡ Ok (Truncate n)) (λ f. o ≡ Err f) → LooseReading text o
truncate_read text rest (Ok n) o w e m = subst (LooseReading text) (sym m) (w.0, ((rest, (e, w.1.0)), w.1.1))
truncate_read text rest (Err f) o w e m = subst (LooseReading text) (sym m) (refused_width text w.0 (inr (rest, (e, w.1.0))) f w.1.1)

-- a fixed word, or no word
pub fixed_or_unknown : (text : List ℕ) (o : Option Transform) → FixedReading text o → NotBegun (codes "bucket") text → NotBegun (codes "truncate") text → LooseReading text (ok_or o WordUnknown)
fixed_or_unknown text (Some t) f b c = f
fixed_or_unknown text None f b c = inl (refl, record { fixed = f; bucket = b; truncate = c })

-- a rule on what the brackets hold is kept where they hold a width
unbroken : (n : ℕ) (P : List ℕ → Type 0) (text : List ℕ) (t : Transform) → Spells text t → ((bare : List ℕ) → P bare → (m : ℕ) → SpellsWidth bare m → ⊥) → Kept (rule n ((b : List ℕ) × (Wide text b × P b)))
unbroken n P text t s apart =
    keeps n ((b : List ℕ) × (Wide text b × P b)) (λ b. let m = spells_wide text t s b.0 b.1.0 in apart b.0 b.1.1 m.0 m.1)

-- a text that spells a transform breaks no rule
pub spells_kept : (text : List ℕ) (t : Transform) → Spells text t → AllKept (text_rules text)
spells_kept text t s = (
  keeps 4 (NoWord text) (spells_known text t s),
  (unbroken 5 Missing text t s missing_or_spelt, (unbroken 6 Strange text t s strange_or_spelt, (unbroken 7 TooLarge text t s large_or_spelt, tt))),
)
