use Rattle.sheets.proofs.Fills.{alike_more, alike_none}
use Rattle.sheets.proofs.Walks.{steps_some, steps_none}
use Rattle.sheets.proofs.sheet.check.are_rows.Goals as goal

pub returns-then-is_none : goal.returns-then-is_none
returns-then-is_none c = alike_none _ c.loop.rows.left.now _ _ c.loop.invariant c.loop-test.true (steps_none _ _ _ c.next.ensures.steps c.if-is_none.ensures)

pub loop-preserved : goal.loop-preserved
loop-preserved c =
    let row = steps_some _ _ _ c.next.ensures.steps c.if-is_none.ensures in
    alike_more _ c.loop.rows.left.now _ _ c.loop.invariant row.0 _ c.loop-test.true row.1
