-- What a closed draft's fields are on every schema that suits its history. Assumes nothing.
use Rattle.std.specs.Prelude.{List}
use Rattle.faults.specs.Rules.{AllKept}
use Rattle.schemas.specs.Columns.{Columns}
use Rattle.closed.specs.Typing.{each_rules}
use Rattle.partitions.specs.Fields.{PaperField}
use Rattle.drafts.specs.Calls.{Call, Answer, Ran, Suits}
use Rattle.drafts.specs.Laws.{AllFit}
use Rattle.drafts.specs.Paper.{Paper}

-- each closed field fits, and none is refused a type: the partition type asked there lists them all
abbrev pub FitWhenClosed : Paper → List PaperField → Type 0
FitWhenClosed p closed = (calls : List Call) (answers : List Answer) → Ran calls answers p → (c : Columns) → Suits c calls → AllFit c closed × AllKept (each_rules c closed)
