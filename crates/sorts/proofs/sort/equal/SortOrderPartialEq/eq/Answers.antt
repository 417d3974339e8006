-- What `==` computes decides whether the orders are the same.
use Rattle.std.proofs.Common.{◌≡◌, rules}
use Rattle.sorts.specs.Equals.{order_eq}
use Rattle.sorts.proofs.Equality.{decided}
use Rattle.sorts.proofs.sort.equal.SortOrderPartialEq.eq.Goals as goal

pub returns-then-self-other-clause-decides : goal.returns-then-self-other-clause-decides
returns-then-self-other-clause-decides c =
    let e : c.eq.result ≡ order_eq c.args.self.now c.args.other.now = search rules in
    decided c.args.self.now c.args.other.now _ e
