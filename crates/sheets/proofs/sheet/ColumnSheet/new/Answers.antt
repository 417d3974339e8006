use Rattle.std.proofs.Common.{refl}
use Rattle.sheets.proofs.Wholes.{shows, unique_rows}
use Rattle.sheets.proofs.sheet.ColumnSheet.new.Goals as goal

pub returns : goal.returns
returns c = record { of = refl; shows = shows _; unique = unique_rows _ }
