-- The name is good.
use Rattle.names.proofs.Good.{held}
use Rattle.names.proofs.name.Name.as_bytes.Goals as goal

pub returns-clause-good : goal.returns-clause-good
returns-clause-good c = rw c.from.ensures (held _ c.args.self.now.good)
