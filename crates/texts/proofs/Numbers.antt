-- Digits and their first wrong place: a text of digits has one reading only. Assumes nothing.
use Rattle.std.proofs.Common.{◌≡◌, ℕ, ◌+◌, ◌*◌, ◌^◌, ◌<◌, ◌≤◌, List, length, get_or, take, Ok, Err, Result, sym, ap, ◌∙◌, subst, inl, inr, ⊎_elim, arith, length-take, lit≤}
use Rattle.std.specs.Char.{digit_value}
use Rattle.std.specs.Str.Parse.{AllDigits, digits_value, without_leading_plus}
use Rattle.std.proofs.lemmas.Int.Digits.{digits_value_more, digits_more}
use Rattle.std.proofs.lemmas.List.{take-take, get_or-take}
use Rattle.std.proofs.lemmas.Str.Parse.{digit_at, digits_value-take-le}
use Rattle.std.proofs.lemmas.Bool.{cases_order}
use Rattle.std.proofs.lemmas.Str.{digit_value_digit}
use Rattle.texts.specs.declared.fault.TextFault.{TextFault}
use Rattle.texts.specs.declared.fault.TextFault.TheVariants.{WordUnknown, WidthMissing, WidthNonDigit, WidthOverflow, NotPrinted}
use Rattle.texts.specs.Width.{Number, NonDigit, Overflow, SpellsWidth, Missing, Strange, TooLarge, OpenGone, CloseGone}
use Rattle.texts.specs.Steps.{DigitsReading, BareReading, WidthReading}

front_le_front : (j k : ℕ) (ds : List ℕ) → j ≤ k → digits_value 10 (take j ds) ≤ digits_value 10 (take k ds)
front_le_front j k ds h = subst (λ l. digits_value 10 l ≤ digits_value 10 (take k ds)) (take-take j k ds h) (digits_value-take-le 10 (take k ds) j (lit≤ tt))

digit_in : (ds : List ℕ) (k : ℕ) → AllDigits 10 ds → k < length ds → digit_value (get_or ds k 0) < 10
digit_in ds k d h =
    let i = digit_at ds k d h in
    let v = digit_value_digit (get_or ds k 0) i in
    omega (arith, i.1)

digit_in_front : (ds : List ℕ) (j k : ℕ) → AllDigits 10 (take j ds) → k < j → k < length ds → digit_value (get_or ds k 0) < 10
digit_in_front ds j k d h l =
    let in' : k < length (take j ds) = omega (arith, length-take j ds) in
    subst (λ x. digit_value x < 10) (get_or-take j ds k 0 h) (digit_in (take j ds) k d in')

number_or_non_digit : (ds : List ℕ) (n : ℕ) → Number ds n → NonDigit ds → ⊥
number_or_non_digit ds n a b = b.1.1 (digit_in ds b.0 a.0 b.1.0.0)

number_or_overflow : (ds : List ℕ) (n : ℕ) → Number ds n → Overflow ds → ⊥
number_or_overflow ds n a b = omega (arith, a.1, a.2, b.1.2, digits_value-take-le 10 ds (b.0 + 1) (lit≤ tt))

non_digit_or_overflow : (ds : List ℕ) → NonDigit ds → Overflow ds → ⊥
non_digit_or_overflow ds a b =
    ⊎_elim
    (λ e. a.1.1 (subst (λ k. digit_value (get_or ds k 0) < 10) (sym e) b.1.1))
    (⊎_elim
    (λ l. a.1.1 (digit_in_front ds b.0 a.0 b.1.0.1 l a.1.0.0))
    (λ l. let m : b.0 + 1 ≤ a.0 = omega arith in omega (arith, front_le_front (b.0 + 1) a.0 ds m, b.1.2, a.1.0.2)))
    (cases_order a.0 b.0)

-- a turn of the loop at the place k, before which the digits spell n
module _ (ds : List ℕ) (k n : ℕ) (inside : k < length ds) (so : Number (take k ds) n) (digit : digit_value (get_or ds k 0) < 10) where
  pub overflow_at : 2 ^ 32 ≤ n * 10 + digit_value (get_or ds k 0) → Overflow ds
  overflow_at large =
      let v = digits_value_more 10 ds k inside in
      (k, ((inside, so.0, omega (arith, so.1, so.2)), digit, omega (arith, so.1)))

  pub digit_more : n * 10 + digit_value (get_or ds k 0) < 2 ^ 32 → Number (take (k + 1) ds) (n * 10 + digit_value (get_or ds k 0))
  digit_more small =
      let v = digits_value_more 10 ds k inside in
      (digits_more 10 ds k inside so.0 digit, omega (arith, so.1), small)

-- what is left between the brackets has one reading only
module _ (bare : List ℕ) where
  nothing_left : Missing bare → length (without_leading_plus bare) ≡ 0
  nothing_left e = ap (λ l. length (without_leading_plus l)) e

  pub missing_or_strange : Missing bare → Strange bare → ⊥
  missing_or_strange m (inl e) = let l = ap length (sym m ∙ e) in omega arith
  missing_or_strange m (inr s) = omega (arith, nothing_left m, s.1.0.0)

  pub missing_or_large : Missing bare → TooLarge bare → ⊥
  missing_or_large m l = omega (arith, nothing_left m, l.1.0.0)

  pub missing_or_spelt : Missing bare → (n : ℕ) → SpellsWidth bare n → ⊥
  missing_or_spelt m n s = omega (arith, nothing_left m, s.0)

  pub strange_or_large : Strange bare → TooLarge bare → ⊥
  strange_or_large (inl e) l = let p : length (without_leading_plus bare) ≡ 0 = ap (λ x. length (without_leading_plus x)) e in omega (arith, l.1.0.0)
  strange_or_large (inr s) l = non_digit_or_overflow (without_leading_plus bare) s l

  pub strange_or_spelt : Strange bare → (n : ℕ) → SpellsWidth bare n → ⊥
  strange_or_spelt (inl e) n s = let p : length (without_leading_plus bare) ≡ 0 = ap (λ x. length (without_leading_plus x)) e in omega (arith, s.0)
  strange_or_spelt (inr d) n s = number_or_non_digit (without_leading_plus bare) n s.1 d

  pub large_or_spelt : TooLarge bare → (n : ℕ) → SpellsWidth bare n → ⊥
  large_or_spelt l n s = number_or_overflow (without_leading_plus bare) n s.1 l

  pub width_only : (m n : ℕ) → SpellsWidth bare m → SpellsWidth bare n → m ≡ n
  width_only m n s t = sym s.1.1 ∙ t.1.1

-- digits after at most one plus are read as the digits are
pub read_after_plus : (bare ds : List ℕ) → without_leading_plus bare ≡ ds → 0 < length ds → (r : Result ℕ TextFault) → DigitsReading ds r → BareReading bare r
read_after_plus bare ds e h (Ok n) d = subst (λ l. (0 < length l) × Number l n) (sym e) (h, d)
read_after_plus bare ds e h (Err WordUnknown) d = d
read_after_plus bare ds e h (Err WidthMissing) d = absurd d
read_after_plus bare ds e h (Err WidthNonDigit) d = inr (subst NonDigit (sym e) d)
read_after_plus bare ds e h (Err WidthOverflow) d = subst Overflow (sym e) d
read_after_plus bare ds e h (Err NotPrinted) d = d

pub width_so : {text rest bare : List ℕ} (r : Result ℕ TextFault) → OpenGone text rest → CloseGone rest bare → BareReading bare r → WidthReading text r
width_so {text} {rest} {bare} r o c b = (bare, ((rest, (o, c)), b))
