-- What `==` of two orders computes: that of their ids, and that of their fields. Assumes nothing.
use Rattle.std.specs.Prelude.{◌≡◌, Bool, Decides}
use Rattle.std.specs.Cmp.Lexicographic.{pointwise}
use Rattle.std.specs.Ordering.{int_eq, on, eq_of_both}
use Rattle.sorts.specs.contracts.sort.SortFieldPartialEq.TheImpl.{ghosts}
use Rattle.sorts.specs.declared.sort.SortOrder.{SortOrder}
use Rattle.sorts.specs.Drafts.{order_of}

abbrev pub order_eq : SortOrder → SortOrder → Bool
order_eq = eq_of_both (on (λ o. o.order_id) int_eq) (on (λ o. o.fields) (pointwise ghosts.eq))

-- it is that the two hold the same
abbrev pub OrdersAreEqualExactlyWhenTheSame : Type 0
OrdersAreEqualExactlyWhenTheSame = (x y : SortOrder) → Decides (order_eq x y) (order_of x ≡ order_of y)
