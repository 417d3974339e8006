use Rattle.std.proofs.Common.{sym, subst, arith, w32, SFits, rules}
use Rattle.std.proofs.lemmas.Int.{to_z-of_z}
use Rattle.sheets.specs.Standing.{ReadsRow}
use Rattle.sheets.proofs.Fronts.{placed, begins, column_there}
use Rattle.sheets.proofs.sheet.row.first_row.Goals as goal

pub returns-then-bytes-lt-HEAD : goal.returns-then-bytes-lt-HEAD
returns-then-bytes-lt-HEAD c = λ row rest b. omega (arith, (placed _ row rest b).long)

pub returns-in_err-column : goal.returns-in_err-column
returns-in_err-column c =
    subst (ReadsRow c.args.bytes.now) (sym c.from_residual-in_err-column.ensures)
    (λ row rest b. c.in_err-column.ensures row.column (column_there _ row rest _ b c.in_ok-parameters.ensures.1))

pub returns-then-end-bytes : goal.returns-then-end-bytes
returns-then-end-bytes c = λ row rest b. let p = placed _ row rest b in omega (arith, p.long, p.name_length)

pub returns : goal.returns
returns c =
    let fits : SFits w32 c.in_ok-id.id = search rules in
    begins c.args.bytes.now c.in_ok-id.id _ c.in_ok-parameters.parameters c.in_ok-column.column (to_z-of_z w32 _ fits) fits c.in_ok-id.ensures.1
    c.in_ok-parameters.ensures.1 c.in_ok-column.ensures (c.type_inv.bytes 13).fits c.if-end-bytes.false
