-- What the steps of loose reading answer, which only the private functions' contracts cite. Assumes nothing.
use Rattle.std.specs.Prelude.{ℕ, List, Some, None, Ok, Err, Option, Result}
use Rattle.transforms.specs.declared.transform.Transform.{Transform}
use Rattle.texts.specs.declared.fault.TextFault.{TextFault}
use Rattle.texts.specs.declared.fault.TextFault.TheVariants.{WordUnknown, WidthMissing, WidthNonDigit, WidthOverflow, NotPrinted}
use Rattle.texts.specs.Width.{Between, Number, NonDigit, Overflow, SpellsWidth, Missing, Strange, TooLarge}
use Rattle.texts.specs.Words.{Spells, NotFixed}

-- what looking for a word that stands alone answers
abbrev pub FixedReading : List ℕ → Option Transform → Type 0
FixedReading text (Some t) = Spells text t
FixedReading text None = NotFixed text

-- what reading a number answers, by what holds where it answers so
abbrev pub Answers : (ℕ → Type 0) → Type 0 → Type 0 → Type 0 → Result ℕ TextFault → Type 0
Answers spelt missing strange large (Ok n) = spelt n
Answers spelt missing strange large (Err WordUnknown) = ⊥
Answers spelt missing strange large (Err WidthMissing) = missing
Answers spelt missing strange large (Err WidthNonDigit) = strange
Answers spelt missing strange large (Err WidthOverflow) = large
Answers spelt missing strange large (Err NotPrinted) = ⊥

-- of digits
abbrev pub DigitsReading : List ℕ → Result ℕ TextFault → Type 0
DigitsReading ds r = Answers (Number ds) ⊥ (NonDigit ds) (Overflow ds) r

-- of what is left between the brackets
abbrev pub BareReading : List ℕ → Result ℕ TextFault → Type 0
BareReading bare r = Answers (SpellsWidth bare) (Missing bare) (Strange bare) (TooLarge bare) r

-- of a width in brackets
abbrev pub WidthReading : List ℕ → Result ℕ TextFault → Type 0
WidthReading text r = (bare : List ℕ) × (Between text bare × BareReading bare r)
