-- The line that an answer is printed as. Assumes nothing.
use Rattle.std.specs.Prelude.{ℕ, cond, List, ◌++◌, string_bytes, codes}
use Rattle.transforms.specs.Printed.{printed}
use Rattle.transforms.specs.Types.{type_text}
use Rattle.replies.specs.declared.answer.Answer.{Answer}
use Rattle.replies.specs.declared.answer.Answer.TheVariants.{Done, Printed, ResultIs, Test, Line, NoSpec, NotHere, NotYet}

abbrev pub answer_text : Answer → List ℕ
answer_text Done = codes "ok"
answer_text (Printed t) = codes "ok " ++ printed t
answer_text (ResultIs t) = codes "ok " ++ type_text t
answer_text (Test b) = cond b (codes "yes") (codes "no")
answer_text (Line line) = string_bytes line
answer_text NoSpec = codes "no-spec"
answer_text NotHere = codes "not-here"
answer_text NotYet = codes "not-yet"
