-- `==` of fields and of slices of them, compared by a view of them. Assumes nothing.
use Rattle.std.proofs.Common.{◌≡◌, Bool, List, [], ◌∷◌, map, ℤ, Some, None, Decides, sym, refl, ap, ◌∙◌}
use Rattle.std.specs.Cmp.Lexicographic.{pointwise, bytes_decides}
use Rattle.std.specs.Option.{option_eq}
use Rattle.std.specs.Ordering.{int_eq}
use Rattle.std.specs.Prelude.{Option}
use Rattle.std.proofs.lemmas.Bool.{false≢true}
use Rattle.std.proofs.lemmas.Bool.Decides.{same_from_decides, Decides-at, Decides-like, Decides-and, Decides-int_eq}
use Rattle.names.specs.NameBytes.{name_bytes}
use Rattle.transforms.proofs.Equality.{transform_eq-Decides}
use Rattle.partitions.specs.Equals.{field_eq, spec_eq}
use Rattle.partitions.specs.Fields.{PaperField, PaperSpec}
use Rattle.partitions.specs.Views.{paper_field, papers}
use Rattle.partitions.specs.Specs.{paper_spec}
use Rattle.partitions.specs.declared.spec.UnboundPartitionSpec.{UnboundPartitionSpec}
use Rattle.partitions.specs.declared.field.UnboundPartitionField.{UnboundPartitionField}

module _ {X Y : Type 0} (f : X → Y) (E : X → X → Bool) (each : (x y : X) → Decides (E x y) (f x ≡ f y)) where
  heads : (x y : Y) (xs ys : List Y) → x ∷ xs ≡ y ∷ ys → (x ≡ y) × (xs ≡ ys)
  heads x y xs ys e = (cc, cc)

  both : (x y : Y) (xs ys : List Y) → (x ≡ y) × (xs ≡ ys) → x ∷ xs ≡ y ∷ ys
  both x y xs ys p = let a = p.0 in let b = p.1 in cc

  pub views : (xs ys : List X) → Decides (pointwise E xs ys) (map f xs ≡ map f ys)
  views [] [] = (λ e. refl, λ e. refl)
  views [] (y ∷ ys) = (λ e. absurd (false≢true e), λ e. cc)
  views (x ∷ xs) [] = (λ e. absurd (false≢true e), λ e. cc)
  views (x ∷ xs) (y ∷ ys) =
      Decides-like _ (both (f x) (f y) (map f xs) (map f ys)) (heads (f x) (f y) (map f xs) (map f ys)) (Decides-and _ _ (each x y) (views xs ys))

  pub views_decided : (xs ys : List X) (r : Bool) → r ≡ pointwise E xs ys → Decides r (map f xs ≡ map f ys)
  views_decided xs ys r e = Decides-at r _ e (views xs ys)

  -- what lists compute to is told by their views
  pub views_computed : (xs ys us vs : List X) (r : Bool) → map f xs ≡ map f us → map f ys ≡ map f vs → r ≡ pointwise E xs ys → r ≡ pointwise E us vs
  views_computed xs ys us vs r p q e = same_from_decides r _ (Decides-like r (λ h. sym p ∙ h ∙ q) (λ h. p ∙ h ∙ sym q) (views_decided xs ys r e)) (views us vs)

maybe_ids : (x y : Option ℤ) → Decides (option_eq int_eq x y) (x ≡ y)
maybe_ids None None = (λ e. refl, λ e. refl)
maybe_ids None (Some y) = (λ e. absurd (false≢true e), λ e. cc)
maybe_ids (Some x) None = (λ e. absurd (false≢true e), λ e. cc)
maybe_ids (Some x) (Some y) = Decides-like _ (λ e. ap Some e) (λ e. cc) (Decides-int_eq x y)

pub fields_decided : (x y : UnboundPartitionField) → Decides (field_eq x y) (paper_field x ≡ paper_field y)
fields_decided x y =
    Decides-like _
    (λ (p : (x.source_id ≡ y.source_id) × ((x.field_id ≡ y.field_id) × ((name_bytes x.name ≡ name_bytes y.name) × (x.transform ≡ y.transform)))) i.
    record { source = p.0 i; id = p.1.0 i; name = p.1.1.0 i; transform = p.1.1.1 i })
    (λ e. (ap (λ (f : PaperField). f.source) e, (ap (λ (f : PaperField). f.id) e, (ap (λ (f : PaperField). f.name) e, ap (λ (f : PaperField). f.transform) e))))
    (Decides-and _ _ (Decides-int_eq x.source_id y.source_id)
    (Decides-and _ _ (maybe_ids x.field_id y.field_id) (Decides-and _ _ (bytes_decides (name_bytes x.name) (name_bytes y.name)) (transform_eq-Decides x.transform y.transform))))

-- two specs of one id are the same where their fields are
pub specs_decided : (x y : PaperSpec) (fs gs : List PaperField) (r : Bool) → x.spec_id ≡ y.spec_id → fs ≡ x.fields → gs ≡ y.fields → Decides r (fs ≡ gs) → Decides r (x ≡ y)
specs_decided x y fs gs r i p q d =
    (λ e. (λ k. record { spec_id = i k; fields = (sym p ∙ d.0 e ∙ q) k }), λ e. d.1 (p ∙ ap (λ (s : PaperSpec). s.fields) e ∙ sym q))

pub spec_eq-Decides : (x y : UnboundPartitionSpec) → Decides (spec_eq x y) (paper_spec x ≡ paper_spec y)
spec_eq-Decides x y =
    Decides-like _
    (λ (p : (x.spec_id ≡ y.spec_id) × (papers x.fields.fields ≡ papers y.fields.fields)) i. record { spec_id = p.0 i; fields = p.1 i })
    (λ e. (ap (λ (s : PaperSpec). s.spec_id) e, ap (λ (s : PaperSpec). s.fields) e))
    (Decides-and _ _ (maybe_ids x.spec_id y.spec_id) (views paper_field field_eq fields_decided x.fields.fields y.fields.fields))
