use Rattle.std.proofs.Common.{refl, subst, sym}
use Rattle.sheets.specs.Standing.{Holds}
use Rattle.sheets.specs.Decoded.{rows_of}
use Rattle.sheets.proofs.Wholes.{rows_hold}
use Rattle.sheets.proofs.sheet.ColumnSheet.rows.Goals as goal

pub returns : goal.returns
returns c =
    let bs = c.args.self.now.bytes.now in
    subst (λ b. Holds b.now (rows_of bs)) (sym c.unwrap_or.ensures) (rows_hold bs c.args.self.now.rows _ refl c.args.self.now.checked)
