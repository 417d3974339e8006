-- The entry at the place, or none past the end.
use Rattle.records.proofs.Taken.{ended, stepped}
use Rattle.records.proofs.recorded.EntriesIterator.next.Goals as goal

pub returns-in_err-next-clause-steps : goal.returns-in_err-next-clause-steps
returns-in_err-next-clause-steps g c =
    let s = c.in_err-next.ensures.steps in
    ended (g.R.Recorded.plan c.args.self.now.plan.now) _ _ _ _ s.0 c.from_residual.result s.1.0 s.1.1 c.from_residual.ensures

pub returns-clause-steps : goal.returns-clause-steps
returns-clause-steps g c =
    let s = c.in_ok-next.ensures.steps in
    stepped (g.R.Recorded.plan c.args.self.now.plan.now) _ _ _ _ s.0 _ c.entry_at.result s.1.0 s.1.1 s.1.2 c.entry_at.ensures
