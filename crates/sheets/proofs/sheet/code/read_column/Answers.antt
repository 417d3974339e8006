use Rattle.std.proofs.Common.{sym, refl, ◌∙◌, subst, arith}
use Rattle.sheets.specs.Standing.{ReadsColumn}
use Rattle.sheets.proofs.Codes.{column_read, no_type, other_parameters}
use Rattle.sheets.proofs.sheet.code.read_column.Goals as goal

pub returns-in_err-field_type : goal.returns-in_err-field_type
returns-in_err-field_type c =
    subst (ReadsColumn c.args.byte c.args.parameters) (sym c.from_residual.ensures) (no_type c.args.byte c.args.parameters c.ranges.parameters.fits c.in_err-field_type.ensures)

pub returns-then-parameters_of-parameters : goal.returns-then-parameters_of-parameters
returns-then-parameters_of-parameters c =
    other_parameters c.args.byte c.args.parameters _ c.ranges.parameters.fits c.in_ok-field_type.ensures (λ e. omega (arith, c.parameters_of.ensures))

pub returns : goal.returns
returns c =
    column_read c.args.byte c.args.parameters _ _ c.ranges.byte.fits c.ranges.parameters.fits (sym c.in_ok-field_type.ensures) (sym c.parameters_of.ensures ∙ c.if-parameters_of-parameters.false) refl
