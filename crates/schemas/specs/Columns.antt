-- What a schema shows: the column of an id, and the id that a name leads to. Assumes nothing.
use Rattle.std.specs.Prelude.{◌≡◌, ℕ, Bool, true, false, List, ℤ, is_some, Some, None, Option}
use Rattle.std.specs.Option.{option_map}
use Rattle.transforms.specs.declared.datatypes.«Type».{«Type» as ColumnType}
use Rattle.transforms.specs.declared.datatypes.«Type».TheVariants.{Primitive, Struct, List as Listed, Map}
use Rattle.schemas.specs.declared.schema.Column.{Column}
use Rattle.schemas.specs.declared.schema.NamedColumn.{NamedColumn}

pub record Columns : Type 0 where
  pub by_id : ℤ → Option Column
  pub by_name : List ℕ → Option ℤ

-- an id that a name leads to has a column
abbrev pub Sound : Columns → Type 0
Sound c = (name : List ℕ) (id : ℤ) → c.by_name name ≡ Some id → is_some (c.by_id id) ≡ true

-- two that show the same: equal lookups at every id and every name
pub record Same (c d : Columns) : Type 0 where
  pub ids : (id : ℤ) → c.by_id id ≡ d.by_id id
  pub names : (name : List ℕ) → c.by_name name ≡ d.by_name name

abbrev pub id_of : NamedColumn → ℤ
id_of column = column.id

-- an id, with the type of its column
abbrev pub with_type : ℤ → Column → NamedColumn
with_type id column = record { id = id; field_type = column.field_type }

abbrev pub typed : Columns → Option ℤ → Option NamedColumn
typed c None = None
typed c (Some id) = option_map (with_type id) (c.by_id id)

-- the id that a name leads to, with the type of the column that the id has
abbrev pub named_in : Columns → List ℕ → Option NamedColumn
named_in c name = typed c (c.by_name name)

abbrev pub is_primitive : ColumnType → Bool
is_primitive (Primitive p) = true
is_primitive (Struct n) = false
is_primitive (Listed n) = false
is_primitive (Map n) = false
