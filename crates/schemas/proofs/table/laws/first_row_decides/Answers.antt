use Rattle.schemas.proofs.Found.{first_decides}
use Rattle.schemas.proofs.table.laws.first_row_decides.Goals as goal

pub returns : goal.returns
returns c = first_decides
