-- Unicode's table and the library have one notion of UTF-8.
use Rattle.names.proofs.Chars.{from_utf8, front, one_notion}
use Rattle.names.proofs.utf8.check_utf8.Goals as goal

pub returns-in-Ok-clause-well_formed : goal.returns-in-Ok-clause-well_formed
returns-in-Ok-clause-well_formed c = from_utf8 _ c.in-Ok.ensures.cases.1

pub returns-in-Ok-clause-one_notion : goal.returns-in-Ok-clause-one_notion
returns-in-Ok-clause-one_notion c = one_notion

pub returns-in-Err-clause-well_formed : goal.returns-in-Err-clause-well_formed
returns-in-Err-clause-well_formed c = rw c.valid_up_to.ensures (front _ _ c.in-Err.ensures.cases.1)

pub returns-in-Err-clause-one_notion : goal.returns-in-Err-clause-one_notion
returns-in-Err-clause-one_notion c = one_notion
