-- The bytes of a column: its type's code, with the mark, and the eight bytes of the type's parameters. Assumes nothing.
use Rattle.std.specs.Prelude.{ℕ, ◌+◌, ◌^◌, ◌<◌, Bool, true, false, List, ◌∷◌, ◌++◌}
use Rattle.octets.specs.BigEndian.{be4, be8}
use Rattle.schemas.specs.declared.schema.Column.{Column}
use Rattle.transforms.specs.Types.{order}
use Rattle.transforms.specs.declared.datatypes.PrimitiveType.{PrimitiveType}
use Rattle.transforms.specs.declared.datatypes.PrimitiveType.TheVariants.{Boolean, Int, Long, Float, Double, Decimal, Date, Time, Timestamp, Timestamptz, TimestampNs, TimestamptzNs, String, Uuid, Fixed, Binary}
use Rattle.transforms.specs.declared.datatypes.«Type».{«Type» as ColumnType}
use Rattle.transforms.specs.declared.datatypes.«Type».TheVariants.{Primitive, Struct, List as Listed, Map}

abbrev pub code : ColumnType → ℕ
code (Primitive p) = order p
code (Struct n) = 16
code (Listed n) = 17
code (Map n) = 18

-- what a marked column's code has more
abbrev pub mark : Bool → ℕ
mark true = 128
mark false = 0

-- none, two numbers of four bytes, or one of eight
pub data Parameters : Type 0 where
  none : Parameters
  two : ℕ → ℕ → Parameters
  one : ℕ → Parameters

abbrev pub of_primitive : PrimitiveType → Parameters
of_primitive Boolean = none
of_primitive Int = none
of_primitive Long = none
of_primitive Float = none
of_primitive Double = none
of_primitive (Decimal precision scale) = two precision scale
of_primitive Date = none
of_primitive Time = none
of_primitive Timestamp = none
of_primitive Timestamptz = none
of_primitive TimestampNs = none
of_primitive TimestamptzNs = none
of_primitive String = none
of_primitive Uuid = none
of_primitive (Fixed length) = one length
of_primitive Binary = none

-- a nested type has its place behind a zero
abbrev pub parameters : ColumnType → Parameters
parameters (Primitive p) = of_primitive p
parameters (Struct place) = two 0 place
parameters (Listed place) = two 0 place
parameters (Map place) = two 0 place

abbrev pub parameter_bytes : Parameters → List ℕ
parameter_bytes none = be8 0
parameter_bytes (two m n) = be4 m ++ be4 n
parameter_bytes (one n) = be8 n

abbrev pub Fit : Parameters → Type 0
Fit none = Unit {0}
Fit (two m n) = (m < 2 ^ 32) × (n < 2 ^ 32)
Fit (one n) = n < 2 ^ 64

unfoldable pub column_bytes : Column → List ℕ
column_bytes column = (code column.field_type + mark column.is_marked) ∷ parameter_bytes (parameters column.field_type)
