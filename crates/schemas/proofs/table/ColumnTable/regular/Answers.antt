use Rattle.std.proofs.Common.{◌≡◌, length, refl, arith, ltb-false, ltb-true}
use Rattle.std.proofs.lemmas.Bool.Decides.{not_from_Decides}
use Rattle.schemas.specs.Regular.{Regular}
use Rattle.schemas.specs.TableRows.{table_rows}
use Rattle.schemas.proofs.Repeats.{still_regular, not_regular, empty_regular}
use Rattle.schemas.proofs.table.ColumnTable.regular.Goals as goal

pub returns-then-not-is_new : goal.returns-then-not-is_new
returns-then-not-is_new c =
    not_regular c.loop-left.left.now c.args.self.now.names.now (Regular (table_rows c.args.self.now)) (omega (arith, ltb-true, ltb-false)) c.loop-left.invariant
    (not_from_Decides _ c.is_new.ensures c.if-not-is_new.true)

pub loop-left-preserved : goal.loop-left-preserved
loop-left-preserved c =
    still_regular c.loop-left.left.now c.args.self.now.names.now (Regular (table_rows c.args.self.now)) (omega (arith, ltb-true, ltb-false)) c.loop-left.invariant
    (c.is_new.ensures.0 c.if-not-is_new.false)

pub returns : goal.returns
returns c =
    let none : length c.loop-left.left.now ≡ 0 = omega (arith, ltb-true, ltb-false) in
    (λ _. c.loop-left.invariant.0 (empty_regular c.loop-left.left.now c.args.self.now.names.now none), λ _. refl)
