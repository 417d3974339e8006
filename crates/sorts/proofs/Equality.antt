-- Orders are equal exactly when their ids and their fields are, as `==` tells of two ids and of two fields.
use Rattle.std.proofs.Common.{◌≡◌, Bool, true, Decides, ap, subst, arith}
use Rattle.std.specs.Cmp.Lexicographic.{pointwise_decides}
use Rattle.std.proofs.lemmas.Bool.Decides.{Decides-at, Decides-like, Decides-and, Decides-int_eq}
use Rattle.transforms.proofs.Equality.{transform_eq-Decides}
use Rattle.sorts.specs.declared.sort.SortField.{SortField}
use Rattle.sorts.specs.declared.sort.SortDirection.{SortDirection}
use Rattle.sorts.specs.declared.sort.NullOrder.{NullOrder}
use Rattle.sorts.specs.contracts.sort.SortFieldPartialEq.TheImpl.{ghosts as field}
use Rattle.sorts.specs.contracts.sort.SortDirectionPartialEq.TheImpl.{ghosts as direction}
use Rattle.sorts.specs.contracts.sort.NullOrderPartialEq.TheImpl.{ghosts as nulls}
use Rattle.sorts.specs.declared.sort.SortOrder.{SortOrder}
use Rattle.sorts.specs.Drafts.{Order, order_of}
use Rattle.sorts.specs.Equals.{order_eq}

direction_same : (x y : SortDirection) → direction.eq x y ≡ true → x ≡ y
direction_same x y e = grind arith

direction_own : (x : SortDirection) → direction.eq x x ≡ true
direction_own x = grind arith

nulls_same : (x y : NullOrder) → nulls.eq x y ≡ true → x ≡ y
nulls_same x y e = grind arith

nulls_own : (x : NullOrder) → nulls.eq x x ≡ true
nulls_own x = grind arith

module _ (x y : SortField) where
  parts : (x.source_id ≡ y.source_id) × ((x.transform ≡ y.transform) × ((x.direction ≡ y.direction) × (x.null_order ≡ y.null_order))) → x ≡ y
  parts p = λ i. record { source_id = p.0 i; transform = p.1.0 i; direction = p.1.1.0 i; null_order = p.1.1.1 i }

  field_decides : Decides (field.eq x y) (x ≡ y)
  field_decides =
      let directions : Decides (direction.eq x.direction y.direction) (x.direction ≡ y.direction) =
      (direction_same x.direction y.direction, λ e. subst (λ z. direction.eq x.direction z ≡ true) e (direction_own x.direction)) in
      let nulls : Decides (nulls.eq x.null_order y.null_order) (x.null_order ≡ y.null_order) =
      (nulls_same x.null_order y.null_order, λ e. subst (λ z. nulls.eq x.null_order z ≡ true) e (nulls_own x.null_order)) in
      Decides-like _ parts (λ e. (ap (λ f. f.source_id) e, (ap (λ f. f.transform) e, (ap (λ f. f.direction) e, ap (λ f. f.null_order) e))))
      (Decides-and _ _ (Decides-int_eq x.source_id y.source_id) (Decides-and _ _ (transform_eq-Decides x.transform y.transform) (Decides-and _ _ directions nulls)))

same_order : (x y : Order) → x.id ≡ y.id → x.fields ≡ y.fields → x ≡ y
same_order x y ids fields = λ i. record { id = ids i; fields = fields i }

pub orders_decided : (x y : SortOrder) → Decides (order_eq x y) (order_of x ≡ order_of y)
orders_decided x y =
    Decides-like _ (λ (p : (x.order_id ≡ y.order_id) × (x.fields ≡ y.fields)). same_order (order_of x) (order_of y) p.0 p.1)
    (λ e. (ap (λ (o : Order). o.id) e, ap (λ (o : Order). o.fields) e))
    (Decides-and _ _ (Decides-int_eq x.order_id y.order_id) (pointwise_decides field_decides x.fields y.fields))

pub decided : (x y : SortOrder) (r : Bool) → r ≡ order_eq x y → Decides r (order_of x ≡ order_of y)
decided x y r e = Decides-at r _ e (orders_decided x y)
