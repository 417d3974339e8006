-- The laws of one answer.
use Rattle.drafts.proofs.Deciding.{one_answer, one_run}
use Rattle.drafts.proofs.laws.histories_have_one_answer.Goals as goal

pub returns : goal.returns
returns c = record { call = one_answer; history = one_run }
