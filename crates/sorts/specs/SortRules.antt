-- The rules of a sort order's id and fields, and what their refusals tell. Assumes nothing.
use Rattle.std.specs.Prelude.{◌≡◌, ◌<◌, false, List, [], ◌∷◌, ◌++◌, length, ℤ, pos, IsSomeAnd, Some, None, codes, Option, Result, MatchResult, ◌≢◌}
use Rattle.faults.specs.Told.{Told}
use Rattle.faults.specs.Rules.{Rule, rule, FirstBroken, AllKept}
use Rattle.faults.specs.declared.error.ErrorKind.TheVariants.{PreconditionFailed, Unexpected}
use Rattle.faults.specs.declared.error.Layer.TheVariants.{Sort}
use Rattle.transforms.specs.Results.{result_of}
use Rattle.schemas.specs.Columns.{Columns, is_primitive}
use Rattle.sorts.specs.declared.sort.SortField.{SortField}
use Rattle.sorts.specs.declared.sort.SortFault.{SortFault}
use Rattle.sorts.specs.declared.sort.SortFault.TheVariants.{SourceUnknown, SourceNotPrimitive, SourceUnfit, Full, IdWithoutFields, ZeroWithFields}

abbrev pub told : SortFault → Told
told SourceUnknown = record { number = 24; kind = Unexpected; layer = Sort; reason = codes "source-unknown"; value = None; index = None }
told SourceNotPrimitive = record { number = 25; kind = Unexpected; layer = Sort; reason = codes "source-not-primitive"; value = None; index = None }
told SourceUnfit = record { number = 26; kind = Unexpected; layer = Sort; reason = codes "source-unfit"; value = None; index = None }
told Full = record { number = 28; kind = PreconditionFailed; layer = Sort; reason = codes "full"; value = None; index = None }
told IdWithoutFields = record { number = 31; kind = Unexpected; layer = Sort; reason = codes "sort-id-without-fields"; value = None; index = None }
told ZeroWithFields = record { number = 32; kind = Unexpected; layer = Sort; reason = codes "sort-id-zero-with-fields"; value = None; index = None }

-- a draft takes 64 fields
abbrev pub room_rules : List SortField → List Rule
room_rules fields = rule 28 (length fields ≡ 64) ∷ []

-- an id that is stated is 0 exactly when there are no fields
abbrev pub order_rules : Option ℤ → List SortField → List Rule
order_rules id fields =
    rule 31 (IsSomeAnd id (λ i. i ≢ pos 0) × (length fields ≡ 0)) ∷ rule 32 ((id ≡ Some (pos 0)) × (0 < length fields)) ∷ []

-- a field's source is a column of a primitive type, of which its transform makes something
abbrev pub field_rules : Columns → SortField → List Rule
field_rules c field =
    rule 24 (c.by_id field.source_id ≡ None)
    ∷ rule 25 (IsSomeAnd (c.by_id field.source_id) (λ source. is_primitive source.field_type ≡ false))
    ∷ rule 26 (IsSomeAnd (c.by_id field.source_id) (λ source. result_of field.transform source.field_type ≡ None))
    ∷ []

-- the rules of each field, in the order of the fields
abbrev pub each_field_rules : Columns → List SortField → List Rule
each_field_rules c [] = []
each_field_rules c (field ∷ fields) = field_rules c field ++ each_field_rules c fields

abbrev pub build_rules : Columns → Option ℤ → List SortField → List Rule
build_rules c id fields = order_rules id fields ++ each_field_rules c fields

-- accepted where all rules are kept; else the first broken rule is told
abbrev pub Answers : List Rule → Result (Unit {0}) SortFault → Type 0
Answers rules r = MatchResult r (λ _. AllKept rules) (λ fault. FirstBroken rules (told fault))
