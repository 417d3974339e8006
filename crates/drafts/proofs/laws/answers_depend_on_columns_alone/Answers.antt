-- The laws of calls made with other schemas.
use Rattle.drafts.proofs.Columned.{step_by_columns, run_by_columns}
use Rattle.drafts.proofs.laws.answers_depend_on_columns_alone.Goals as goal

pub returns : goal.returns
returns c = record { call = step_by_columns; history = run_by_columns }
