-- Column sheets: the bytes of rows, and of a sheet of them. Assumes nothing.
use Rattle.std.specs.Prelude.{◌≡◌, ℕ, ◌<◌, List, ◌∷◌, ◌++◌, length, ℤ, FitsSigned}
use Rattle.std.specs.Int.{w32}
use Rattle.std.specs.List.{flat_map, AllByRecursion}
use Rattle.octets.specs.BigEndian.{be2, be_id}
use Rattle.octets.specs.Octets.{Bytes}
use Rattle.schemas.specs.declared.schema.Column.{Column}
use Rattle.sheets.specs.TypeCodes.{parameters, Fit, column_bytes}

pub record SheetRow : Type 0 where
  pub id : ℤ
  pub column : Column
  pub name : List ℕ

-- the id, the column, the name's length, the name
unfoldable pub row_bytes : SheetRow → List ℕ
row_bytes row = be_id row.id ++ (column_bytes row.column ++ (length row.name ∷ row.name))

-- its numbers fit their bytes
pub record RowFits (row : SheetRow) : Type 0 where
  pub id : FitsSigned w32 row.id
  pub parameters : Fit (parameters row.column.field_type)
  pub name : length row.name < 256

-- the rows, their count, and the distance from there back to the first
unfoldable pub sheet_bytes : List SheetRow → List ℕ
sheet_bytes rows = flat_map row_bytes rows ++ (be2 (length rows) ++ be2 (length (flat_map row_bytes rows)))

-- the bytes are the sheet of the rows, whose count and length fit two bytes each
pub record SheetOf (bytes : List ℕ) (rows : List SheetRow) : Type 0 where
  pub is : bytes ≡ sheet_bytes rows
  pub octets : Bytes bytes
  pub each : AllByRecursion RowFits rows
  pub few : length rows < 65536
  pub short : length (flat_map row_bytes rows) < 65536

-- sound bytes: the sheet of some rows
abbrev pub IsSheet : List ℕ → Type 0
IsSheet bytes = (rows : List SheetRow) × SheetOf bytes rows

-- which no other rows have
abbrev pub UniqueRows : List ℕ → Type 0
UniqueRows bytes = (r s : List SheetRow) → SheetOf bytes r → SheetOf bytes s → r ≡ s
