-- What stands at the front of bytes: a column, a row, a number of rows. Assumes nothing.
use Rattle.std.specs.Prelude.{◌≡◌, ℕ, List, ◌∷◌, ◌++◌, length, Option, MatchOption}
use Rattle.std.specs.Borrow.{Bor}
use Rattle.std.specs.List.{flat_map, AllByRecursion}
use Rattle.octets.specs.BigEndian.{be8}
use Rattle.schemas.specs.declared.schema.Column.{Column}
use Rattle.sheets.specs.TypeCodes.{parameters, Fit, column_bytes}
use Rattle.sheets.specs.Sheets.{SheetRow, RowFits, row_bytes}
use Rattle.sheets.specs.declared.sheet.row.Row.{Row as ReadRow}

pub record ColumnOf (byte n : ℕ) (column : Column) : Type 0 where
  pub is : column_bytes column ≡ byte ∷ be8 n
  pub fits : Fit (parameters column.field_type)

-- the column with these bytes, or that there is none
abbrev pub ReadsColumn : ℕ → ℕ → Option Column → Type 0
ReadsColumn byte n r = MatchOption r ((column : Column) → ColumnOf byte n column → ⊥) (ColumnOf byte n)

-- the row, with these bytes behind it
pub record Begins (bytes : List ℕ) (row : SheetRow) (rest : List ℕ) : Type 0 where
  pub is : bytes ≡ row_bytes row ++ rest
  pub fits : RowFits row

abbrev pub row_read : ReadRow → SheetRow
row_read row = record { id = row.id; column = row.column; name = row.name.now }

-- no row stands there, or this one, with these bytes behind it
abbrev pub StepsOver : List ℕ → Option ReadRow → List ℕ → Type 0
StepsOver bytes r rest = MatchOption r ((row : SheetRow) (after : List ℕ) → Begins bytes row after → ⊥) (λ row. Begins bytes (row_read row) rest)

-- the row with which the bytes begin, or that there is none
abbrev pub ReadsRow : List ℕ → Option (ReadRow × Bor (List ℕ)) → Type 0
ReadsRow bytes r = MatchOption r ((row : SheetRow) (rest : List ℕ) → Begins bytes row rest → ⊥) (λ parts. Begins bytes (row_read parts.0) parts.1.now)

-- the bytes are those of the rows
pub record Holds (bytes : List ℕ) (rows : List SheetRow) : Type 0 where
  pub is : bytes ≡ flat_map row_bytes rows
  pub each : AllByRecursion RowFits rows

-- the bytes are so many rows
pub record Filled (bytes : List ℕ) (count : ℕ) : Type 0 where
  pub rows : List SheetRow
  pub many : length rows ≡ count
  pub holds : Holds bytes rows
