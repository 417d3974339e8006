-- A change of the start goes on a history.
use Rattle.std.proofs.Common.{rules}
use Rattle.drafts.proofs.Histories.{continued}
use Rattle.drafts.proofs.builder.PartitionSpecBuilder.with_last_assigned_field_id.Goals as goal

pub returns-clause-history : goal.returns-clause-history
returns-clause-history c = continued _ _ _ _ (search rules)
