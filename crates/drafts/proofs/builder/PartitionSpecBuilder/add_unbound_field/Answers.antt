-- A bound add to the fields goes on a history.
use Rattle.std.proofs.Common.{rules}
use Rattle.drafts.proofs.Histories.{continued}
use Rattle.drafts.proofs.builder.PartitionSpecBuilder.add_unbound_field.Goals as goal

pub returns-clause-history : goal.returns-clause-history
returns-clause-history g c = continued _ _ _ _ (search rules)
