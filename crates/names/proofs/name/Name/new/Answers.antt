-- A name is good exactly when it keeps every rule.
use Rattle.names.proofs.Good.{exactly}
use Rattle.names.proofs.name.Name.new.Goals as goal

pub returns-in_err-check_name-clause-rules : goal.returns-in_err-check_name-clause-rules
returns-in_err-check_name-clause-rules c = exactly

pub returns-clause-rules : goal.returns-clause-rules
returns-clause-rules c = exactly
