-- The width in a transform's text: what the brackets hold, the number that it spells, and its first wrong place. Assumes nothing.
use Rattle.std.specs.Prelude.{◌≡◌, ℕ, ◌+◌, ◌-◌, ◌^◌, ◌<◌, ◌≤◌, ◌⊎◌, List, [], ◌∷◌, ◌++◌, length, take, replicate, slice_index, slice_index_or}
use Rattle.std.specs.Char.{digit_value}
use Rattle.std.specs.Str.Parse.{AllDigits, digits_value, without_leading_plus}

-- rest is text without its leading '['
pub record OpenGone (text rest : List ℕ) : Type 0 where
  pub count : ℕ
  pub whole : text ≡ replicate count 91 ++ rest
  pub none : slice_index_or rest 0 0 ≡ 91 → ⊥

-- rest is text without its trailing ']'
pub record CloseGone (text rest : List ℕ) : Type 0 where
  pub count : ℕ
  pub whole : text ≡ rest ++ replicate count 93
  pub none : slice_index_or rest (length rest - 1) 0 ≡ 93 → ⊥

-- bare is what is left of text between the brackets
abbrev pub Between : List ℕ → List ℕ → Type 0
Between text bare = (rest : List ℕ) × (OpenGone text rest × CloseGone rest bare)

-- one of '0' to '9'
abbrev pub Digit : ℕ → Type 0
Digit c = digit_value c < 10

-- ds are digits, and spell the number n of 32 bits
abbrev pub Number : List ℕ → ℕ → Type 0
Number ds n = AllDigits 10 ds × (digits_value 10 ds ≡ n) × (n < 2 ^ 32)

-- something stands at the place k, and before it all is well: digits, of a number of 32 bits
abbrev pub WellUpTo : List ℕ → ℕ → Type 0
WellUpTo ds k = (k < length ds) × AllDigits 10 (take k ds) × (digits_value 10 (take k ds) < 2 ^ 32)

-- the first wrong place holds no digit
abbrev pub NonDigit : List ℕ → Type 0
NonDigit ds = (k : ℕ) × (WellUpTo ds k × (Digit (slice_index ds k) → ⊥))

-- the first wrong place holds a digit, which takes the number past 32 bits
abbrev pub Overflow : List ℕ → Type 0
Overflow ds = (k : ℕ) × (WellUpTo ds k × Digit (slice_index ds k) × (2 ^ 32 ≤ digits_value 10 (take (k + 1) ds)))

-- bare spells n: digits, and at least one, after at most one plus
abbrev pub SpellsWidth : List ℕ → ℕ → Type 0
SpellsWidth bare n = (0 < length (without_leading_plus bare)) × Number (without_leading_plus bare) n

-- nothing is left between the brackets
abbrev pub Missing : List ℕ → Type 0
Missing bare = bare ≡ []

-- a lone plus is left, or something whose first wrong place holds no digit
abbrev pub Strange : List ℕ → Type 0
Strange bare = (bare ≡ 43 ∷ []) ⊎ NonDigit (without_leading_plus bare)

-- something is left whose first wrong place holds a digit, which takes the number past 32 bits
abbrev pub TooLarge : List ℕ → Type 0
TooLarge bare = Overflow (without_leading_plus bare)
