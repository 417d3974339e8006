-- The columns that bytes show as a sheet. Assumes nothing.
use Rattle.std.specs.Prelude.{◌≡◌, ℕ, List, [], map, Some}
use Rattle.schemas.specs.Columns.{Columns}
use Rattle.schemas.specs.Rows.{Row, shown}
use Rattle.sheets.specs.Sheets.{SheetRow, SheetOf, IsSheet}
use Rattle.sheets.specs.Decoded.{rows_of}

abbrev pub named : SheetRow → Row
named row = record { id = row.id; column = row.column; name = Some row.name }

abbrev pub sheet_columns : List ℕ → Columns
sheet_columns bytes = shown (map named (rows_of bytes))

-- a sound sheet shows its rows, and other bytes show none
pub record Shows (bytes : List ℕ) : Type 0 where
  pub rows : (rows : List SheetRow) → SheetOf bytes rows → sheet_columns bytes ≡ shown (map named rows)
  pub none : (IsSheet bytes → ⊥) → sheet_columns bytes ≡ shown []
