-- Rows of a table, and the columns that they show. Assumes nothing.
use Rattle.std.specs.Prelude.{ℕ, Bool, false, cond, List, [], ◌∷◌, ℤ, Some, None, Option}
use Rattle.std.specs.Str.{bytes_eq}
use Rattle.schemas.specs.declared.schema.Column.{Column}
use Rattle.schemas.specs.Ids.{same}
use Rattle.schemas.specs.Columns.{Columns}

-- a row may lack a name
pub record Row : Type 0 where
  pub id : ℤ
  pub column : Column
  pub name : Option (List ℕ)

abbrev pub is_called : Option (List ℕ) → List ℕ → Bool
is_called None name = false
is_called (Some own) name = bytes_eq own name

-- the column of the first row with the id
abbrev pub column_in : List Row → ℤ → Option Column
column_in [] id = None
column_in (row ∷ rows) id = cond (same row.id id) (Some row.column) (column_in rows id)

-- the id of the first row with the name
abbrev pub id_in : List Row → List ℕ → Option ℤ
id_in [] name = None
id_in (row ∷ rows) name = cond (is_called row.name name) (Some row.id) (id_in rows name)

abbrev pub shown : List Row → Columns
shown rows = record { by_id = column_in rows; by_name = id_in rows }
