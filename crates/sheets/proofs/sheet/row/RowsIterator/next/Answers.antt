use Rattle.sheets.proofs.Walks.{shorter}
use Rattle.sheets.proofs.sheet.row.RowsIterator.next.Goals as goal

pub returns-clause-goes : goal.returns-clause-goes
returns-clause-goes c = record { on = λ _. (tt, tt, shorter _ _ _ c.in_ok-row.ensures); keeps = tt; rests = λ _. tt }
