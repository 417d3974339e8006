-- The texts worked by hand, place by place. Assumes nothing.
use Rattle.std.proofs.Common.{◌≡◌, ℕ, ◌-◌, ◌<◌, List, [], ◌++◌, length, get_or, replicate, Ok, Err, codes, Result, sym, refl, ap, ◌∙◌, inl, inr, arith, lit<, lit≤, rules}
use Rattle.std.specs.Fmt.{digits}
use Rattle.texts.specs.Reading.{LooseReading}
use Rattle.texts.specs.Steps.{BareReading}
use Rattle.texts.specs.Width.{SpellsWidth}
use Rattle.texts.specs.Words.{After}
use Rattle.texts.specs.declared.fault.TextFault.{TextFault}
use Rattle.texts.specs.declared.fault.TextFault.TheVariants.{WidthMissing, WidthNonDigit, WidthOverflow}
use Rattle.texts.proofs.Back.{print_read, not_printed}
use Rattle.texts.proofs.Only.{loose_only}
use Rattle.texts.proofs.Refusals.{refused_width}
use Rattle.transforms.specs.Printed.{printed}
use Rattle.transforms.specs.declared.transform.Transform.{Transform}
use Rattle.transforms.specs.declared.transform.Transform.TheVariants.{Bucket}
use Rattle.worked.specs.TextExamples.{LooselySixteen, SixteenInOtherWords, FirstWrongPlaceDecides}

apart : (m n : ℕ) → m < n → m ≡ n → ⊥
apart m n l e = omega arith

sixteen_printed : printed (Bucket 16) ≡ codes "bucket[16]"
unfolding digits
sixteen_printed = refl

same_transform : (s t : Transform) → ◌≡◌ {A = Result Transform TextFault} (Ok t) (Ok s) → t ≡ s
same_transform s t e = cc

-- i brackets that open, what they hold, and j that close it
abbrev in_brackets : ℕ → ℕ → List ℕ → List ℕ
in_brackets i j bare = replicate i 91 ++ (bare ++ replicate j 93)

module _ (i j : ℕ) (bare : List ℕ) (opened : get_or (bare ++ replicate j 93) 0 0 ≡ 91 → ⊥) (closed : get_or bare (length bare - 1) 0 ≡ 93 → ⊥) where
  after : (word : List ℕ) → After word (word ++ in_brackets i j bare) bare
  after word = (
    in_brackets i j bare,
    (refl, (bare ++ replicate j 93, (record { count = i; whole = refl; none = opened }, record { count = j; whole = refl; none = closed }))),
  )

  loosely_sixteen : SpellsWidth bare 16 → (codes "bucket" ++ in_brackets i j bare ≡ printed (Bucket 16) → ⊥) → LooselySixteen (codes "bucket" ++ in_brackets i j bare)
  loosely_sixteen s other =
      let text = codes "bucket" ++ in_brackets i j bare in
      let read : LooseReading text (Ok (Bucket 16)) = (bare, (after (codes "bucket"), s)) in
      (read, (not_printed text (λ t p. other (p.1 ∙ ap printed (same_transform (Bucket 16) t (loose_only text (Ok (Bucket 16)) (Ok t) read (print_read text t p)))))).0)

  refused_bucket : (f : TextFault) → BareReading bare (Err f) → LooseReading (codes "bucket" ++ in_brackets i j bare) (Err f)
  refused_bucket f b = refused_width _ bare (inl (after (codes "bucket"))) f b

  refused_truncate : (f : TextFault) → BareReading bare (Err f) → LooseReading (codes "truncate" ++ in_brackets i j bare) (Err f)
  refused_truncate f b = refused_width _ bare (inr (after (codes "truncate"))) f b

pub sixteen_in_other_words : SixteenInOtherWords
sixteen_in_other_words = (
  loosely_sixteen 0 0 (codes "16") (apart 49 91 (lit< tt)) (apart 54 93 (lit< tt)) (lit< tt, ((lit< tt, (lit< tt, tt)), refl, lit< tt)) (λ e. apart 8 10 (lit< tt) (ap length (e ∙ sixteen_printed))),
  loosely_sixteen 2 2 (codes "16") (apart 49 91 (lit< tt)) (apart 54 93 (lit< tt)) (lit< tt, ((lit< tt, (lit< tt, tt)), refl, lit< tt)) (λ e. apart 10 12 (lit< tt) (sym (ap length (e ∙ sixteen_printed)))),
  loosely_sixteen 1 1 (codes "+016") (apart 43 91 (lit< tt)) (apart 54 93 (lit< tt)) (lit< tt, ((lit< tt, (lit< tt, (lit< tt, tt))), refl, lit< tt)) (λ e. apart 10 12 (lit< tt) (sym (ap length (e ∙ sixteen_printed)))),
)

pub first_wrong_place_decides : FirstWrongPlaceDecides
first_wrong_place_decides = (
  refused_bucket 1 1 (codes "4294967296a") (apart 52 91 (lit< tt)) (λ e. apart 93 97 (lit< tt) (sym e)) WidthOverflow (9, ((lit< tt, search rules, lit< tt), lit< tt, lit≤ tt)),
  refused_bucket 1 1 (codes "4294967295a") (apart 52 91 (lit< tt)) (λ e. apart 93 97 (lit< tt) (sym e)) WidthNonDigit (inr (10, ((lit< tt, search rules, lit< tt), λ h. omega arith))),
  refused_truncate 1 1 [] (λ e. apart 91 93 (lit< tt) (sym e)) (apart 0 93 (lit< tt)) WidthMissing refl,
)
