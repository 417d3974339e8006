-- The law of suiting schemas, of this draft.
use Rattle.drafts.specs.Drafts.{paper}
use Rattle.drafts.proofs.Reached.{admitted_on_every}
use Rattle.drafts.proofs.builder.PartitionSpecBuilder.fields.Goals as goal

pub returns-clause-fit : goal.returns-clause-fit
returns-clause-fit c = admitted_on_every (paper c.args.self.now)
