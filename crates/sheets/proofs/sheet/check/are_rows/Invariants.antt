use Rattle.std.proofs.Common.{◌-◌}
use Rattle.sheets.proofs.Fills.{Alike}
use Rattle.sheets.proofs.sheet.check.are_rows.Given as goal

abbrev pub invariant-loop : goal.invariant-loop
invariant-loop l = Alike l.rows.left.now (l.count - l.counter) l.bytes l.count
