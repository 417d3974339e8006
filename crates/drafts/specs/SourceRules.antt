-- The rules of a field on a schema's columns, and all the rules of a bound add, in the order that decides a refusal.
-- Assumes nothing.
use Rattle.std.specs.Prelude.{◌≡◌, true, false, List, [], ◌∷◌, ◌++◌, IsSomeAnd, None, ◌≢◌}
use Rattle.faults.specs.Rules.{Rule, rule, AllKept}
use Rattle.names.specs.NameRules.{name_rules}
use Rattle.transforms.specs.Results.{result_of}
use Rattle.transforms.specs.declared.transform.Transform.TheVariants.{Identity, Void}
use Rattle.schemas.specs.Columns.{Columns, is_primitive}
use Rattle.schemas.specs.declared.schema.Column.{Column}
use Rattle.partitions.specs.AddRules.{used_rules, last_rules}
use Rattle.partitions.specs.Fields.{PaperField}

-- an identity field has the name of no column but its source, any other field has the name of none
abbrev pub collision_rules : Columns → PaperField → List Rule
collision_rules c f =
    rule 22 ((f.transform ≡ Identity) × IsSomeAnd (c.by_name f.name) (λ id. id ≢ f.source))
    ∷ rule 23 ((f.transform ≢ Identity) × IsSomeAnd (c.by_name f.name) (λ _. Unit {0}))
    ∷ []

-- the field is not void, and its source is a column of which this holds
abbrev pub UnlessVoid : Columns → PaperField → (Column → Type 0) → Type 0
UnlessVoid c f P = (f.transform ≢ Void) × IsSomeAnd (c.by_id f.source) P

-- the source is a column; unless the field is void, the column is primitive and not inside a list or a map, and the
-- transform has a result for its type
abbrev pub column_rules : Columns → PaperField → List Rule
column_rules c f =
    rule 24 (c.by_id f.source ≡ None)
    ∷ rule 25 (UnlessVoid c f (λ source. is_primitive source.field_type ≡ false))
    ∷ rule 33 (UnlessVoid c f (λ source. source.is_marked ≡ true))
    ∷ rule 26 (UnlessVoid c f (λ source. result_of f.transform source.field_type ≡ None))
    ∷ []

abbrev pub source_rules : Columns → PaperField → List Rule
source_rules c f = collision_rules c f ++ column_rules c f

-- what comes before the rules of ids and room
abbrev pub early_rules : Columns → List PaperField → PaperField → List Rule
early_rules c fs f = name_rules f.name ++ (used_rules fs f ++ source_rules c f)

abbrev pub bound_rules : Columns → List PaperField → PaperField → List Rule
bound_rules c fs f = name_rules f.name ++ (used_rules fs f ++ (source_rules c f ++ last_rules fs f))

-- the columns admit the field
abbrev pub Admitted : Columns → PaperField → Type 0
Admitted c f = AllKept (source_rules c f)
