use Rattle.std.proofs.Common.{◌≡◌, drop}
use Rattle.schemas.specs.Rows.{column_in}
use Rattle.schemas.specs.TableRows.{rows_of}
use Rattle.schemas.proofs.table.lookup.ColumnTableSchema.field_by_id.Given as goal

-- what is left gives the answer
abbrev pub invariant-loop-row : goal.invariant-loop-row
invariant-loop-row l =
    column_in (rows_of (drop l.row-index l.self.records.now) l.self.names.now) l.id
    ≡ column_in (rows_of l.self.records.now l.self.names.now) l.id
