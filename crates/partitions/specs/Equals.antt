-- What `==` computes of two fields and of two specs: part by part, a name by its bytes. Assumes nothing.
use Rattle.std.specs.Prelude.{◌≡◌, Bool, Decides, nat_eq}
use Rattle.std.specs.Cmp.Lexicographic.{pointwise}
use Rattle.std.specs.Option.{option_eq}
use Rattle.std.specs.Ordering.{int_eq, on, eq_of_both}
use Rattle.names.specs.NameBytes.{name_bytes}
use Rattle.transforms.specs.contracts.transform.TransformPartialEq.TheImpl.{ghosts}
use Rattle.partitions.specs.declared.field.UnboundPartitionField.{UnboundPartitionField}
use Rattle.partitions.specs.declared.spec.UnboundPartitionSpec.{UnboundPartitionSpec}
use Rattle.partitions.specs.Specs.{paper_spec}
use Rattle.partitions.specs.Views.{paper_field}

abbrev pub field_eq : UnboundPartitionField → UnboundPartitionField → Bool
field_eq =
    eq_of_both (on (λ f. f.source_id) int_eq)
    (eq_of_both (on (λ f. f.field_id) (option_eq int_eq))
    (eq_of_both (on (λ f. name_bytes f.name) (pointwise nat_eq)) (on (λ f. f.transform) ghosts.eq)))

abbrev pub spec_eq : UnboundPartitionSpec → UnboundPartitionSpec → Bool
spec_eq = eq_of_both (on (λ s. s.spec_id) (option_eq int_eq)) (on (λ s. s.fields.fields) (pointwise field_eq))

-- they are that the two are the same on paper
abbrev pub FieldsAreEqualExactlyWhenTheSame : Type 0
FieldsAreEqualExactlyWhenTheSame = (x y : UnboundPartitionField) → Decides (field_eq x y) (paper_field x ≡ paper_field y)

abbrev pub SpecsAreEqualExactlyWhenTheSame : Type 0
SpecsAreEqualExactlyWhenTheSame = (x y : UnboundPartitionSpec) → Decides (spec_eq x y) (paper_spec x ≡ paper_spec y)
