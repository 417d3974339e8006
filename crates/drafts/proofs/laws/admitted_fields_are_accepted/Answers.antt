-- The law of fields that the columns admit.
use Rattle.drafts.proofs.Accepting.{accepted}
use Rattle.drafts.proofs.laws.admitted_fields_are_accepted.Goals as goal

pub returns : goal.returns
returns c = accepted
