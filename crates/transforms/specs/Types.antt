-- Types as text, and sets of primitive types. Assumes nothing.
use Rattle.std.specs.Prelude.{ℕ, Bool, false, cond, ◌||◌, List, [], ◌∷◌, ◌++◌, codes, decimal, ◌==◌}
use Rattle.transforms.specs.declared.datatypes.PrimitiveType.{PrimitiveType}
use Rattle.transforms.specs.declared.datatypes.PrimitiveType.TheVariants.{Boolean, Int, Long, Float, Double, Decimal, Date, Time, Timestamp, Timestamptz, TimestampNs, TimestamptzNs, String, Uuid, Fixed, Binary}
use Rattle.transforms.specs.declared.datatypes.«Type».{«Type» as ColumnType}
use Rattle.transforms.specs.declared.datatypes.«Type».TheVariants.{Primitive, Struct, List as Listed, Map}

-- the name of a primitive type, without its parameters
abbrev pub type_word : PrimitiveType → List ℕ
type_word Boolean = codes "boolean"
type_word Int = codes "int"
type_word Long = codes "long"
type_word Float = codes "float"
type_word Double = codes "double"
type_word (Decimal p s) = codes "decimal"
type_word Date = codes "date"
type_word Time = codes "time"
type_word Timestamp = codes "timestamp"
type_word Timestamptz = codes "timestamptz"
type_word TimestampNs = codes "timestamp_ns"
type_word TimestamptzNs = codes "timestamptz_ns"
type_word String = codes "string"
type_word Uuid = codes "uuid"
type_word (Fixed n) = codes "fixed"
type_word Binary = codes "binary"

-- what follows the name
abbrev pub parameters : PrimitiveType → List ℕ
parameters Boolean = []
parameters Int = []
parameters Long = []
parameters Float = []
parameters Double = []
parameters (Decimal p s) = codes "(" ++ (decimal p ++ (codes "," ++ (decimal s ++ codes ")")))
parameters Date = []
parameters Time = []
parameters Timestamp = []
parameters Timestamptz = []
parameters TimestampNs = []
parameters TimestamptzNs = []
parameters String = []
parameters Uuid = []
parameters (Fixed n) = codes "[" ++ (decimal n ++ codes "]")
parameters Binary = []

-- a nested type's place; place 0 is not written
abbrev pub place : ℕ → List ℕ
place n = cond (n == 0) [] (codes "@" ++ decimal n)

abbrev pub type_text : ColumnType → List ℕ
type_text (Primitive p) = type_word p ++ parameters p
type_text (Struct n) = codes "struct" ++ place n
type_text (Listed n) = codes "list" ++ place n
type_text (Map n) = codes "map" ++ place n

-- the place of a primitive type in their order
abbrev pub order : PrimitiveType → ℕ
order Boolean = 0
order Int = 1
order Long = 2
order Float = 3
order Double = 4
order (Decimal p s) = 5
order Date = 6
order Time = 7
order Timestamp = 8
order Timestamptz = 9
order TimestampNs = 10
order TimestamptzNs = 11
order String = 12
order Uuid = 13
order (Fixed n) = 14
order Binary = 15

-- the type is one of these, whatever its parameters
abbrev pub among : PrimitiveType → List PrimitiveType → Bool
among p [] = false
among p (q ∷ qs) = order p == order q || among p qs
