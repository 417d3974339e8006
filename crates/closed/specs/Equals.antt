-- What `==` computes of two fields and of two closed specs: part by part, a name by its bytes. Assumes nothing.
use Rattle.std.specs.Prelude.{◌≡◌, Bool, Decides, nat_eq}
use Rattle.std.specs.Cmp.Lexicographic.{pointwise}
use Rattle.std.specs.Ordering.{int_eq, on, eq_of_both}
use Rattle.names.specs.NameBytes.{name_bytes}
use Rattle.transforms.specs.contracts.transform.TransformPartialEq.TheImpl.{ghosts}
use Rattle.closed.specs.Closed.{paper_closed}
use Rattle.closed.specs.Opened.{opened}
use Rattle.closed.specs.declared.field.PartitionField.{PartitionField}
use Rattle.closed.specs.declared.spec.PartitionSpec.{PartitionSpec}

-- apart from the ids
abbrev pub bare_eq : PartitionField → PartitionField → Bool
bare_eq =
    eq_of_both (on (λ f. f.source_id) int_eq)
    (eq_of_both (on (λ f. name_bytes f.name) (pointwise nat_eq)) (on (λ f. f.transform) ghosts.eq))

abbrev pub field_eq : PartitionField → PartitionField → Bool
field_eq = eq_of_both (on (λ f. f.field_id) int_eq) bare_eq

abbrev pub spec_eq : PartitionSpec → PartitionSpec → Bool
spec_eq = eq_of_both (on (λ s. s.spec_id) int_eq) (on (λ s. s.fields) (pointwise field_eq))

-- they are that the two are the same on paper
abbrev pub FieldsAreEqualExactlyWhenTheSame : Type 0
FieldsAreEqualExactlyWhenTheSame = (x y : PartitionField) → Decides (field_eq x y) (opened x ≡ opened y)

abbrev pub SpecsAreEqualExactlyWhenTheSame : Type 0
SpecsAreEqualExactlyWhenTheSame = (x y : PartitionSpec) → Decides (spec_eq x y) (paper_closed x ≡ paper_closed y)
