-- What a transform makes of a type, and what refuses it. Assumes nothing.
use Rattle.std.specs.Prelude.{◌≡◌, cond, List, [], ◌∷◌, Some, None, codes, Option, Result, MatchResult}
use Rattle.faults.specs.Told.{Told}
use Rattle.faults.specs.Rules.{Rule, rule, FirstBroken}
use Rattle.faults.specs.declared.error.ErrorKind.TheVariants.{DataInvalid}
use Rattle.faults.specs.declared.error.Layer.TheVariants.{«Type» as TypeLayer}
use Rattle.transforms.specs.declared.datatypes.PrimitiveType.{PrimitiveType}
use Rattle.transforms.specs.declared.datatypes.PrimitiveType.TheVariants.{Boolean, Int, Long, Float, Double, Decimal, Date, Timestamp, Timestamptz, TimestampNs, TimestamptzNs, String, Binary}
use Rattle.transforms.specs.declared.datatypes.«Type».{«Type» as ColumnType}
use Rattle.transforms.specs.declared.datatypes.«Type».TheVariants.{Primitive, Struct, List as Listed, Map}
use Rattle.transforms.specs.declared.transform.Transform.{Transform}
use Rattle.transforms.specs.declared.transform.Transform.TheVariants.{Identity, Bucket, Truncate, Year, Month, Day, Hour, Void, Unknown}
use Rattle.transforms.specs.declared.transform.TypeFault.{TypeFault}
use Rattle.transforms.specs.declared.transform.TypeFault.TheVariants.{NoResult}
use Rattle.transforms.specs.Types.{among}

abbrev pub timestamps : List PrimitiveType
timestamps = Timestamp ∷ Timestamptz ∷ TimestampNs ∷ TimestamptzNs ∷ []

-- what bucket does not take
abbrev pub unhashed : List PrimitiveType
unhashed = Boolean ∷ Float ∷ Double ∷ []

-- what truncate takes
abbrev pub truncatable : List PrimitiveType
truncatable = Int ∷ Long ∷ Decimal 0 0 ∷ String ∷ Binary ∷ []

-- what a transform makes of a primitive type
abbrev pub primitive_result : Transform → PrimitiveType → Option PrimitiveType
primitive_result Identity p = Some p
primitive_result (Bucket n) p = cond (among p unhashed) None (Some Int)
primitive_result (Truncate n) p = cond (among p truncatable) (Some p) None
primitive_result Year p = cond (among p (Date ∷ timestamps)) (Some Int) None
primitive_result Month p = cond (among p (Date ∷ timestamps)) (Some Int) None
primitive_result Day p = cond (among p (Date ∷ timestamps)) (Some Date) None
primitive_result Hour p = cond (among p timestamps) (Some Int) None
primitive_result Void p = Some p
primitive_result Unknown p = Some String

-- of nested types only void and unknown make something
abbrev pub nested_result : Transform → ColumnType → Option ColumnType
nested_result Identity t = None
nested_result (Bucket n) t = None
nested_result (Truncate n) t = None
nested_result Year t = None
nested_result Month t = None
nested_result Day t = None
nested_result Hour t = None
nested_result Void t = Some t
nested_result Unknown t = Some (Primitive String)

abbrev pub as_column_type : Option PrimitiveType → Option ColumnType
as_column_type None = None
as_column_type (Some p) = Some (Primitive p)

-- the result type of a transform on a type, if it has one
abbrev pub result_of : Transform → ColumnType → Option ColumnType
result_of t (Primitive p) = as_column_type (primitive_result t p)
result_of t (Struct n) = nested_result t (Struct n)
result_of t (Listed n) = nested_result t (Listed n)
result_of t (Map n) = nested_result t (Map n)

abbrev pub told : TypeFault → Told
told NoResult = record { number = 8; kind = DataInvalid; layer = TypeLayer; reason = codes "no-result"; value = None; index = None }

abbrev pub type_rules : Transform → ColumnType → List Rule
type_rules t s = rule 8 (result_of t s ≡ None) ∷ []

-- what the question for a result type answers
abbrev pub ResultType : Transform → ColumnType → Result ColumnType TypeFault → Type 0
ResultType t s r = MatchResult r (λ x. result_of t s ≡ Some x) (λ f. FirstBroken (type_rules t s) (told f))
