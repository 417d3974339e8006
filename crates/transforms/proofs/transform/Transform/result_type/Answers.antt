-- A result is the rule's, and so the table's.
use Rattle.std.proofs.Common.{rules}
use Rattle.transforms.proofs.Documents.{documented_at}
use Rattle.transforms.proofs.transform.Transform.result_type.Goals as goal

pub returns-clause-documented : goal.returns-clause-documented
returns-clause-documented c = documented_at _ _ _ (search rules)
