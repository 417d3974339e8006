-- An id that is not among the others is pushed, or there is no room.
use Rattle.std.proofs.Common.{w32, to_z, of_z, rules}
use Rattle.bounded.proofs.Pushes.{few_pushed}
use Rattle.schemas.proofs.Distinction.{distinct_pushed}
use Rattle.schemas.proofs.selection.Selection.select.Goals as goal

pub invariant_of-self : goal.invariant_of-self
invariant_of-self g c = record {
  few = few_pushed 64 c.args.self.now.ids c.push.new.self (to_z w32 (of_z w32 c.args.id)) c.push.result c.push.ensures;
  distinct = distinct_pushed c.args.self.now.ids c.as_slice.result.now c.push.new.self (to_z w32 (of_z w32 c.args.id)) c.push.result
      c.args.self.now.distinct c.as_slice.ensures.value (search rules) c.push.ensures;
}
