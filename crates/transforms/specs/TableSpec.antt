-- The table of partition transforms, as the Iceberg Table Spec has it: a line a transform, with its text, its source
-- types and its result type. Written from that document and not from the crate. Assumes nothing.
use Rattle.std.specs.Prelude.{◌≡◌, ℕ, Bool, true, false, cond, ◌||◌, ◌⊎◌, List, [], ◌∷◌, ◌++◌, Some, None, codes, decimal, Option, ◌==◌}
use Rattle.std.specs.Str.{bytes_eq}
use Rattle.transforms.specs.declared.datatypes.PrimitiveType.TheVariants.{Int}
use Rattle.transforms.specs.declared.datatypes.«Type».{«Type» as ColumnType}
use Rattle.transforms.specs.declared.datatypes.«Type».TheVariants.{Primitive, Struct, List as Listed, Map}
use Rattle.transforms.specs.declared.transform.Transform.{Transform}
use Rattle.transforms.specs.declared.transform.Transform.TheVariants.{Identity, Bucket, Truncate, Year, Month, Day, Hour, Void, Unknown}
use Rattle.transforms.specs.Types.{type_word}

-- the text of a line, with the width in decimal where the line has N or W
abbrev pub with_width : ℕ → List ℕ → List ℕ
with_width n [] = []
with_width n (c ∷ cs) = cond (c == 78 || c == 87) (decimal n ++ with_width n cs) (c ∷ with_width n cs)

-- the text that the document gives a transform; it has no transform unknown
abbrev pub document_text : Transform → Option (List ℕ)
document_text Identity = Some (codes "identity")
document_text (Bucket n) = Some (with_width n (codes "bucket[N]"))
document_text (Truncate n) = Some (with_width n (codes "truncate[W]"))
document_text Year = Some (codes "year")
document_text Month = Some (codes "month")
document_text Day = Some (codes "day")
document_text Hour = Some (codes "hour")
document_text Void = Some (codes "void")
document_text Unknown = None

-- which types a line takes: any, any primitive one, or those of these names
pub data Sources : Type 0 where
  every : Sources
  primitives : Sources
  only : List (List ℕ) → Sources

-- which result a line has
pub data Gives : Type 0 where
  source : Gives
  int : Gives
  source_or_int : Gives

pub record Line : Type 0 where
  pub sources : Sources
  pub gives : Gives

abbrev pub timestamp_words : List (List ℕ)
timestamp_words = codes "timestamp" ∷ codes "timestamptz" ∷ codes "timestamp_ns" ∷ codes "timestamptz_ns" ∷ []

abbrev pub hashed_words : List (List ℕ)
hashed_words =
    codes "int" ∷ codes "long" ∷ codes "decimal" ∷ codes "date" ∷ codes "time"
    ∷ (timestamp_words ++ (codes "string" ∷ codes "uuid" ∷ codes "fixed" ∷ codes "binary" ∷ []))

abbrev pub truncated_words : List (List ℕ)
truncated_words = codes "int" ∷ codes "long" ∷ codes "decimal" ∷ codes "string" ∷ codes "binary" ∷ []

-- the table itself
abbrev pub line : Transform → Option Line
line Identity = Some (record { sources = primitives; gives = source })
line (Bucket n) = Some (record { sources = only hashed_words; gives = int })
line (Truncate n) = Some (record { sources = only truncated_words; gives = source })
line Year = Some (record { sources = only (codes "date" ∷ timestamp_words); gives = int })
line Month = Some (record { sources = only (codes "date" ∷ timestamp_words); gives = int })
line Day = Some (record { sources = only (codes "date" ∷ timestamp_words); gives = int })
line Hour = Some (record { sources = only timestamp_words; gives = int })
line Void = Some (record { sources = every; gives = source_or_int })
line Unknown = None

abbrev pub named : List (List ℕ) → List ℕ → Bool
named [] word = false
named (w ∷ ws) word = bytes_eq w word || named ws word

abbrev pub takes : Sources → ColumnType → Bool
takes every s = true
takes primitives (Primitive p) = true
takes primitives (Struct n) = false
takes primitives (Listed n) = false
takes primitives (Map n) = false
takes (only ws) (Primitive p) = named ws (type_word p)
takes (only ws) (Struct n) = false
takes (only ws) (Listed n) = false
takes (only ws) (Map n) = false

abbrev pub Given : Gives → ColumnType → ColumnType → Type 0
Given source s r = r ≡ s
Given int s r = r ≡ Primitive Int
Given source_or_int s r = (r ≡ s) ⊎ (r ≡ Primitive Int)
