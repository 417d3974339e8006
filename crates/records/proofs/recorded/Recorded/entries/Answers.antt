-- All entries are left.
use Rattle.records.proofs.Taken.{left_all}
use Rattle.records.proofs.recorded.Recorded.entries.Goals as goal

pub returns-clause-all : goal.returns-clause-all
returns-clause-all g c = left_all (g.Self.Recorded.plan c.args.self.now) c.entry_count.result c.entry_count.ensures.count
