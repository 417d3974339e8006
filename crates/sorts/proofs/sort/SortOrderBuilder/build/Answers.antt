-- What is answered on one schema is answered on each that shows the same.
use Rattle.std.proofs.Common.{rules, Ok}
use Rattle.sorts.specs.Drafts.{draft_of}
use Rattle.sorts.proofs.Fitting.{same_answer}
use Rattle.sorts.proofs.sort.SortOrderBuilder.build.Goals as goal

pub returns-clause-alike : goal.returns-clause-alike
returns-clause-alike g c = same_answer (g.S.Schema.columns c.args.schema.now) (draft_of c.args.self.now) (Ok tt) (search rules)
