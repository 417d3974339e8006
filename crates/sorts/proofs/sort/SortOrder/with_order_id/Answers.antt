-- The rules of the id are those of the order, and keep 0 for the unsorted one.
use Rattle.std.proofs.Common.{refl, sym, w64, SFits, rules}
use Rattle.std.proofs.lemmas.Int.{to_z-of_z}
use Rattle.sorts.proofs.Zeros.{zero_after}
use Rattle.sorts.proofs.sort.SortOrder.with_order_id.Goals as goal

pub returns-in_err-check_order_id : goal.returns-in_err-check_order_id
returns-in_err-check_order_id c =
    let fits : SFits w64 c.args.order_id = c.ranges.order_id in
    let broken = rw (to_z-of_z w64 c.args.order_id fits) at c.in_err-check_order_id.ensures in
    search rules

pub invariant_of-self : goal.invariant_of-self
invariant_of-self c = record { few = c.args.self.now.few; zero = zero_after _ _ _ _ c.in_ok-check_order_id.ensures refl (sym c.as_slice.ensures.value) }
