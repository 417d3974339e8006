-- The rows of a sheet, computed from its bytes: a guess by places, kept where the bytes are its sheet. Assumes nothing.
use Rattle.std.specs.Prelude.{ℕ, zero, suc, ◌+◌, ◌-◌, ◌*◌, ◌/◌, ◌%◌, Bool, true, cond, ◌&&◌, List, [], ◌∷◌, length, take, drop, nat_le, nat_lt, slice_index, slice_index_or, Option}
use Rattle.std.specs.Bool.{then_some}
use Rattle.std.specs.Str.{bytes_eq}
use Rattle.octets.specs.BigEndian.{number, id_number}
use Rattle.schemas.specs.declared.schema.Column.{Column}
use Rattle.transforms.specs.declared.datatypes.PrimitiveType.TheVariants.{Boolean, Int, Long, Float, Double, Decimal, Date, Time, Timestamp, Timestamptz, TimestampNs, TimestamptzNs, String, Uuid, Fixed, Binary}
use Rattle.transforms.specs.declared.datatypes.«Type».{«Type» as ColumnType}
use Rattle.transforms.specs.declared.datatypes.«Type».TheVariants.{Primitive, Struct, List as Listed, Map}
use Rattle.sheets.specs.TypeCodes.{Parameters, none, two, one}
use Rattle.sheets.specs.Sheets.{SheetRow, sheet_bytes}

-- parameters as one number of eight bytes
abbrev pub number_of : Parameters → ℕ
number_of none = 0
number_of (two m n) = m * 4294967296 + n
number_of (one n) = n

-- the types in the order of their codes, each with what it takes of such a number
abbrev pub types : ℕ → List ColumnType
types n =
    Primitive Boolean ∷ Primitive Int ∷ Primitive Long ∷ Primitive Float ∷ Primitive Double ∷ Primitive (Decimal (n / 4294967296) (n % 4294967296)) ∷ Primitive Date ∷ Primitive Time
    ∷ Primitive Timestamp ∷ Primitive Timestamptz ∷ Primitive TimestampNs ∷ Primitive TimestamptzNs ∷ Primitive String ∷ Primitive Uuid ∷ Primitive (Fixed n) ∷ Primitive Binary
    ∷ Struct (n % 4294967296) ∷ Listed (n % 4294967296) ∷ Map (n % 4294967296) ∷ []

abbrev pub column_at : ℕ → ℕ → Column
column_at byte n = record { field_type = slice_index_or (types n) (byte % 128) (Primitive Boolean); is_marked = nat_le 128 byte }

-- the row that bytes would begin with
unfoldable pub row_at : List ℕ → SheetRow
row_at bs = record { id = id_number (take 4 bs); column = column_at (slice_index bs 4) (number (take 8 (drop 5 bs))); name = take (slice_index bs 13) (drop 14 bs) }

unfoldable pub rows_at : ℕ → List ℕ → List SheetRow
rows_at zero bs = []
rows_at (suc k) bs = row_at bs ∷ rows_at k (drop (14 + slice_index bs 13) bs)

-- as many rows as are told behind them
unfoldable pub guess : List ℕ → List SheetRow
guess bs = rows_at (number (take 2 (drop (length bs - 4) bs))) bs

abbrev pub are_bytes : List ℕ → Bool
are_bytes [] = true
are_bytes (b ∷ bs) = nat_lt b 256 && are_bytes bs

-- the distance to the first row fits two bytes
unfoldable pub is_sheet : List ℕ → Bool
is_sheet bs = bytes_eq bs (sheet_bytes (guess bs)) && (are_bytes bs && nat_lt (length bs) 65540)

-- bytes that are no sheet have none
unfoldable pub rows_of : List ℕ → List SheetRow
rows_of bs = cond (is_sheet bs) (guess bs) []

-- the bytes of the rows, all but the last four
unfoldable pub body_of : List ℕ → Option (List ℕ)
body_of bs = then_some (is_sheet bs) (take (length bs - 4) bs)
