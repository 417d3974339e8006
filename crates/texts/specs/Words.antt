-- The words of transforms' texts: those that stand alone, and those that a width follows. Assumes nothing.
use Rattle.std.specs.Prelude.{◌≡◌, ℕ, ◌⊎◌, List, ◌++◌, codes, ◌≢◌}
use Rattle.transforms.specs.declared.transform.Transform.{Transform}
use Rattle.transforms.specs.declared.transform.Transform.TheVariants.{Identity, Bucket, Truncate, Year, Month, Day, Hour, Void, Unknown}
use Rattle.texts.specs.Width.{Between, SpellsWidth}

-- text is the word, and bare stands in brackets after it
abbrev pub After : List ℕ → List ℕ → List ℕ → Type 0
After word text bare = (rest : List ℕ) × ((text ≡ word ++ rest) × Between rest bare)

-- text begins with one of the words that a width follows, and bare stands in brackets after it
abbrev pub Wide : List ℕ → List ℕ → Type 0
Wide text bare = After (codes "bucket") text bare ⊎ After (codes "truncate") text bare

-- the text is the transform's word, or its word and its width
abbrev pub Spells : List ℕ → Transform → Type 0
Spells text Identity = text ≡ codes "identity"
Spells text (Bucket n) = (bare : List ℕ) × (After (codes "bucket") text bare × SpellsWidth bare n)
Spells text (Truncate n) = (bare : List ℕ) × (After (codes "truncate") text bare × SpellsWidth bare n)
Spells text Year = text ≡ codes "year"
Spells text Month = text ≡ codes "month"
Spells text Day = text ≡ codes "day"
Spells text Hour = text ≡ codes "hour"
Spells text Void = text ≡ codes "void"
Spells text Unknown = text ≡ codes "unknown"

-- text is no word that stands alone
pub record NotFixed (text : List ℕ) : Type 0 where
  pub identity : text ≡ codes "identity" → ⊥
  pub year : text ≡ codes "year" → ⊥
  pub month : text ≡ codes "month" → ⊥
  pub day : text ≡ codes "day" → ⊥
  pub hour : text ≡ codes "hour" → ⊥
  pub void : text ≡ codes "void" → ⊥
  pub unknown : text ≡ codes "unknown" → ⊥

-- text does not begin with the word
abbrev pub NotBegun : List ℕ → List ℕ → Type 0
NotBegun word text = (rest : List ℕ) → text ≢ word ++ rest

-- text is no word that stands alone, and begins with none that a width follows
pub record NoWord (text : List ℕ) : Type 0 where
  pub fixed : NotFixed text
  pub bucket : NotBegun (codes "bucket") text
  pub truncate : NotBegun (codes "truncate") text
