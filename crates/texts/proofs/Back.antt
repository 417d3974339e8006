-- A printed text reads back as the transform that it was printed from. Assumes nothing.
use Rattle.std.proofs.Common.{◌≡◌, Bool, ℕ, ◌-◌, ◌^◌, ◌<◌, ◌≤◌, true, false, Decides, List, [], ◌∷◌, ◌++◌, length, get_or, take, drop, Ok, Err, codes, decimal, Result, sym, refl, ap, ◌∙◌, subst, inl, arith, length-append}
use Rattle.std.specs.Int.{IsInRange}
use Rattle.std.specs.Result.{is_ok}
use Rattle.std.proofs.lemmas.Fmt.{decimal_is_IsNumeral, length-decimal-le}
use Rattle.std.proofs.lemmas.List.{take_at, get_or_append_left}
use Rattle.std.proofs.lemmas.Str.Parse.{digit_at, without_leading_plus_none}
use Rattle.std.proofs.lemmas.Bool.{false≢true}
use Rattle.std.proofs.lemmas.Bool.Decides.{Decides-like}
use Rattle.transforms.specs.declared.transform.Transform.{Transform}
use Rattle.transforms.specs.declared.transform.Transform.TheVariants.{Identity, Bucket, Truncate, Year, Month, Day, Hour, Void, Unknown}
use Rattle.transforms.specs.Printed.{printed, Narrow}
use Rattle.texts.specs.declared.fault.TextFault.{TextFault}
use Rattle.texts.specs.declared.fault.TextFault.TheVariants.{NotPrinted}
use Rattle.texts.specs.declared.print.OutputShort.{OutputShort}
use Rattle.texts.specs.Writing.{Wrote}
use Rattle.texts.specs.Width.{Between, Number, SpellsWidth}
use Rattle.texts.specs.Words.{After, Spells}
use Rattle.texts.specs.Reading.{LooseReading, StrictReading, Prints}
use Rattle.texts.specs.Promises.{ReadBack, AcceptsExactlyThePrinted, SameTextExactlyWhenSameTransform}
use Rattle.texts.proofs.Only.{loose_only}

between : (ds : List ℕ) → 0 < length ds → ((i : ℕ) → i < length ds → IsInRange 48 57 (get_or ds i 0)) → Between (91 ∷ (ds ++ 93 ∷ [])) ds
between ds some digits = (
  ds ++ 93 ∷ [],
  (
    record { count = 1; whole = refl; none = λ e. omega (arith, get_or_append_left ds (93 ∷ []) 0 0 some, (digits 0 some).1) },
    record { count = 1; whole = refl; none = λ e. let lt : length ds - 1 < length ds = omega arith in omega (arith, (digits (length ds - 1) lt).1) },
  ),
)

-- a width in brackets after a word
after : (word : List ℕ) (n : ℕ) → n < 2 ^ 32 → (bare : List ℕ) × (After word (word ++ (91 ∷ (decimal n ++ 93 ∷ []))) bare × SpellsWidth bare n)
after word n h =
    let num = decimal_is_IsNumeral n (omega arith) in
    let some = num.0.0 in
    let at = λ (i : ℕ) (l : i < length (decimal n)). digit_at (decimal n) i num.0.1 l in
    let plain = without_leading_plus_none (decimal n) (λ e. omega (arith, (at 0 some).0)) in (
      decimal n,
      (
        (91 ∷ (decimal n ++ 93 ∷ []), (refl, between (decimal n) some at)),
        subst (λ ds. (0 < length ds) × Number ds n) (sym plain) (some, (num.0.1, num.1, h)),
      ),
    )

pub reads_so : (t : Transform) → Narrow t → Spells (printed t) t
reads_so Identity h = refl
reads_so (Bucket n) h = after (codes "bucket") n h
reads_so (Truncate n) h = after (codes "truncate") n h
reads_so Year h = refl
reads_so Month h = refl
reads_so Day h = refl
reads_so Hour h = refl
reads_so Void h = refl
reads_so Unknown h = refl

pub read_back : (t : Transform) → Narrow t → ReadBack t
read_back t h = (reads_so t h, (h, refl))

pub short : (t : Transform) → Narrow t → length (printed t) ≤ 20
short Identity h = omega arith
short (Bucket n) h = simp length-append (omega (arith, length-decimal-le 10 n (omega arith) (omega arith) (omega arith)))
short (Truncate n) h = simp length-append (omega (arith, length-decimal-le 10 n (omega arith) (omega arith) (omega arith)))
short Year h = omega arith
short Month h = omega arith
short Day h = omega arith
short Hour h = omega arith
short Void h = omega arith
short Unknown h = omega arith

-- 20 bytes have room for every print
pub fits : (t : Transform) (room now : List ℕ) (r : Result ℕ OutputShort) → Narrow t → length room ≡ 20 → Wrote (printed t) room now r → is_ok r ≡ true
fits t room now (Ok n) h e w = refl
fits t room now (Err f) h e w = absurd (omega (arith, w.0, short t h))

-- a text that a transform prints is read loosely as that transform, and in no other way
pub print_read : (text : List ℕ) (t : Transform) → Prints t text → LooseReading text (Ok t)
print_read text t p = subst (λ l. Spells l t) (sym p.1) (reads_so t p.0)

pub same_text : SameTextExactlyWhenSameTransform
same_text x y s t p q = (
  λ e. let r : ◌≡◌ {A = Result Transform TextFault} (Ok s) (Ok t) =
      loose_only x (Ok t) (Ok s) (subst (λ l. LooseReading l (Ok t)) (sym e) (print_read y t q)) (print_read x s p) in cc,
  λ e. p.1 ∙ ap printed e ∙ sym q.1,
)

-- comparing the front that was written with a text tells whether the text is the print
pub compared : (text room now : List ℕ) (t : Transform) (n : ℕ) (r : Result ℕ OutputShort) (b : Bool) → r ≡ Ok n → Wrote (printed t) room now r → Decides b (take n now ≡ text) → Decides b (text ≡ printed t)
compared text room now t n r b e w d =
    let k = subst (λ (o : Result ℕ OutputShort). Wrote (printed t) room now o) e w in
    let front : take n now ≡ printed t = ap (take n) k.2 ∙ take_at (printed t) (drop n room) n (sym k.0) in
    Decides-like b (λ q. sym q ∙ front) (λ q. front ∙ sym q) d

-- a text that is no print is refused, and by nothing else
pub not_printed : (text : List ℕ) → ((t : Transform) → Prints t text → ⊥) → StrictReading text (Err NotPrinted) × AcceptsExactlyThePrinted text (Err NotPrinted)
not_printed text none = (inl (refl, none), (λ e. absurd (false≢true e), λ p. absurd (none p.0 p.1)))

-- strict reading after a loose one: the loose reading was this one only
pub loose_refused : (text : List ℕ) (r : Result Transform TextFault) → is_ok r ≡ false → ((s : Result Transform TextFault) → LooseReading text s → s ≡ r) → (t : Transform) → Prints t text → ⊥
loose_refused text r e only t p = false≢true (sym e ∙ ap is_ok (sym (only (Ok t) (print_read text t p))))

pub loose_same : (text : List ℕ) (r : Result Transform TextFault) (s : Transform) → r ≡ Ok s → ((x : Result Transform TextFault) → LooseReading text x → x ≡ r) → (t : Transform) → Prints t text → t ≡ s
loose_same text r s e only t p =
    let q : ◌≡◌ {A = Result Transform TextFault} (Ok t) (Ok s) = only (Ok t) (print_read text t p) ∙ e in cc
