use Rattle.schemas.proofs.Found.{regular_found}
use Rattle.schemas.proofs.table.laws.regular_rows_are_found.Goals as goal

pub returns : goal.returns
returns c = regular_found
