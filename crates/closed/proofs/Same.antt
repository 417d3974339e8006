-- `==` of fields and of slices of them, compared on paper. Assumes nothing.
use Rattle.std.proofs.Common.{◌≡◌, Some, Decides, ap}
use Rattle.std.specs.Cmp.Lexicographic.{bytes_decides}
use Rattle.std.proofs.lemmas.Bool.Decides.{Decides-like, Decides-and, Decides-int_eq}
use Rattle.names.specs.NameBytes.{name_bytes}
use Rattle.transforms.proofs.Equality.{transform_eq-Decides}
use Rattle.std.proofs.lemmas.Option.{same_Some}
use Rattle.partitions.proofs.Same.{views}
use Rattle.partitions.specs.Fields.{PaperField, PaperSpec}
use Rattle.closed.specs.Bare.{Bare, bare}
use Rattle.closed.specs.Equals.{bare_eq, field_eq, spec_eq}
use Rattle.closed.specs.Closed.{paper_closed}
use Rattle.closed.specs.Opened.{opened, openeds}
use Rattle.closed.specs.declared.field.PartitionField.{PartitionField}
use Rattle.closed.specs.declared.spec.PartitionSpec.{PartitionSpec}

pub bare_eq-Decides : (x y : PartitionField) → Decides (bare_eq x y) (bare (opened x) ≡ bare (opened y))
bare_eq-Decides x y =
    Decides-like _
    (λ (p : (x.source_id ≡ y.source_id) × ((name_bytes x.name ≡ name_bytes y.name) × (x.transform ≡ y.transform))) i.
    record { source = p.0 i; name = p.1.0 i; transform = p.1.1 i })
    (λ e. (ap (λ (f : Bare). f.source) e, (ap (λ (f : Bare). f.name) e, ap (λ (f : Bare). f.transform) e)))
    (Decides-and _ _ (Decides-int_eq x.source_id y.source_id)
    (Decides-and _ _ (bytes_decides (name_bytes x.name) (name_bytes y.name)) (transform_eq-Decides x.transform y.transform)))

pub field_eq-Decides : (x y : PartitionField) → Decides (field_eq x y) (opened x ≡ opened y)
field_eq-Decides x y =
    Decides-like _
    (λ (p : (x.field_id ≡ y.field_id) × (bare (opened x) ≡ bare (opened y))) i.
    record { source = (p.1 i).source; id = Some (p.0 i); name = (p.1 i).name; transform = (p.1 i).transform })
    (λ e. (same_Some _ _ (ap (λ (f : PaperField). f.id) e), ap bare e))
    (Decides-and _ _ (Decides-int_eq x.field_id y.field_id) (bare_eq-Decides x y))

pub spec_eq-Decides : (x y : PartitionSpec) → Decides (spec_eq x y) (paper_closed x ≡ paper_closed y)
spec_eq-Decides x y =
    Decides-like _
    (λ (p : (x.spec_id ≡ y.spec_id) × (openeds x.fields ≡ openeds y.fields)) i. record { spec_id = Some (p.0 i); fields = p.1 i })
    (λ e. (same_Some _ _ (ap (λ (s : PaperSpec). s.spec_id) e), ap (λ (s : PaperSpec). s.fields) e))
    (Decides-and _ _ (Decides-int_eq x.spec_id y.spec_id) (views opened field_eq field_eq-Decides x.fields y.fields))
