-- A field that is not void decides; else all are.
use Rattle.std.proofs.Common.{rules, tests}
use Rattle.std.proofs.lemmas.Iterator.{cases_from_all, YieldsList-from_slice}
use Rattle.closed.specs.Closed.{paper_closed}
use Rattle.closed.proofs.Asked.{IsVoid, voids_decided}
use Rattle.closed.proofs.spec.PartitionSpec.is_unpartitioned.Goals as goal

pub returns : goal.returns
returns c =
    let fs = c.fields.result.now in
    voids_decided fs (paper_closed c.args.self.now).fields c.all.result c.fields.ensures.same
    (cases_from_all c.all.new.self _ c.all.result IsVoid (λ f. IsVoid f → ⊥) c.all.ensures.ran (YieldsList-from_slice fs cc) (λ x q k. search (rules, tests)) (λ x q k. search (rules, tests)))
