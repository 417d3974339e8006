-- The type of a partition on columns: its fields, the rules in their order, and what asking for it does. Assumes nothing.
use Rattle.std.specs.Prelude.{◌≡◌, ℕ, ◌<◌, ◌≤◌, List, [], ◌∷◌, ◌++◌, length, drop, Some, None, Option, Result, MatchResult, slice_index_or}
use Rattle.faults.specs.Rules.{Rule, rule, AllKept, FirstBroken}
use Rattle.transforms.specs.Results.{result_of, type_rules}
use Rattle.transforms.specs.declared.datatypes.«Type».{«Type» as ColumnType}
use Rattle.transforms.specs.declared.transform.Transform.{Transform}
use Rattle.schemas.specs.Columns.{Columns}
use Rattle.schemas.specs.declared.schema.Column.{Column}
use Rattle.partitions.specs.Fields.{PaperField}
use Rattle.closed.specs.TypeFaults.{told}
use Rattle.closed.specs.declared.types.TypeFault.{TypeFault}
use Rattle.closed.specs.declared.types.TypeField.{TypeField}

-- what a transform makes of a column, if there is one
abbrev pub made_of : Transform → Option Column → Option ColumnType
made_of t None = None
made_of t (Some column) = result_of t column.field_type

-- the result type of a field on columns, if it has one
abbrev pub result_on : Columns → PaperField → Option ColumnType
result_on c f = made_of f.transform (c.by_id f.source)

-- the rule of a transform on a column, if there is one
abbrev pub making_rules : Transform → Option Column → List Rule
making_rules t None = []
making_rules t (Some column) = type_rules t column.field_type

-- no column has the source's id; the transform makes nothing of the column's type
abbrev pub field_rules : Columns → PaperField → List Rule
field_rules c f = rule 24 (c.by_id f.source ≡ None) ∷ making_rules f.transform (c.by_id f.source)

-- field after field
abbrev pub each_rules : Columns → List PaperField → List Rule
each_rules c [] = []
each_rules c (f ∷ fs) = field_rules c f ++ each_rules c fs

-- the list that is lent is shorter than the fields; then each field's
abbrev pub typing_rules : Columns → List PaperField → ℕ → List Rule
typing_rules c fs room = rule 12 (room < length fs) ∷ each_rules c fs

-- the first n fields keep their rules
abbrev pub KeptBefore : Columns → List PaperField → ℕ → Type 0
KeptBefore c fs n = (k : ℕ) (d : PaperField) → k < n → AllKept (field_rules c (slice_index_or fs k d))

-- the field of the type, of the field at the place
pub record TypedAt (c : Columns) (place : ℕ) (f : PaperField) (t : TypeField) : Type 0 where
  pub id : f.id ≡ Some t.field_id
  pub result : result_on c f ≡ Some t.result_type
  pub ordinal : t.place ≡ place

-- the first n fields are written, and past them the list is as it was
pub record Typed (c : Columns) (fs : List PaperField) (n : ℕ) (old new : List TypeField) : Type 0 where
  pub room : n ≤ length old
  pub size : length new ≡ length old
  pub each : (k : ℕ) (d : PaperField) (e : TypeField) → k < n → TypedAt c k (slice_index_or fs k d) (slice_index_or new k e)
  pub past : drop n new ≡ drop n old

-- all fields are written and counted, or the first broken rule is told and nothing is
abbrev pub Types : Columns → List PaperField → List TypeField → List TypeField → Result ℕ TypeFault → Type 0
Types c fs old new r =
    MatchResult r (λ n. (n ≡ length fs) × AllKept (typing_rules c fs (length old)) × Typed c fs n old new)
    (λ fault. FirstBroken (typing_rules c fs (length old)) (told fault) × (new ≡ old))
