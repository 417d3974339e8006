use Rattle.std.proofs.Common.{length}
use Rattle.schemas.specs.Regular.{Regular}
use Rattle.schemas.specs.TableRows.{rows_of}
use Rattle.schemas.proofs.table.ColumnTable.regular.Given as goal

-- the table is regular exactly when what is left of it is
abbrev pub invariant-loop-left : goal.invariant-loop-left
invariant-loop-left l =
    (Regular (rows_of l.left l.self.names.now) → Regular (rows_of l.self.records.now l.self.names.now))
    × (Regular (rows_of l.self.records.now l.self.names.now) → Regular (rows_of l.left l.self.names.now))

abbrev pub decreases-loop-left : goal.decreases-loop-left
decreases-loop-left l = length l.left
