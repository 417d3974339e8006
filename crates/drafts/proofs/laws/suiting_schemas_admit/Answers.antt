-- The law of suiting schemas.
use Rattle.drafts.proofs.Reached.{admitted_on_every}
use Rattle.drafts.proofs.laws.suiting_schemas_admit.Goals as goal

pub returns : goal.returns
returns c = admitted_on_every
