-- A spec that was closed is bound back to itself, and read back from its record. Assumes nothing.
use Rattle.std.specs.Prelude.{◌≡◌, ℕ, List, ℤ, Some, Result, MatchResult}
use Rattle.faults.specs.Rules.{AllKept}
use Rattle.schemas.specs.Columns.{Columns, Same}
use Rattle.partitions.specs.Fields.{PaperField, PaperSpec}
use Rattle.closed.specs.Closed.{paper_closed}
use Rattle.closed.specs.Closing.{ClosedAs}
use Rattle.closed.specs.Typing.{each_rules}
use Rattle.closed.specs.declared.spec.PartitionSpec.{PartitionSpec}
use Rattle.drafts.specs.Calls.{Call, Answer, Ran, Suits}
use Rattle.drafts.specs.Laws.{AllFit}
use Rattle.drafts.specs.Paper.{Paper}
use Rattle.records.specs.Format.{RecordOf}
use Rattle.binding.specs.declared.fault.BindFault.{BindFault}

-- the opened form of a spec that a draft with this history is closed to
pub record ClosedFrom (calls : List Call) (answers : List Answer) (s : PaperSpec) : Type 0 where
  pub draft : Paper
  pub ran : Ran calls answers draft
  pub id : s.spec_id ≡ Some draft.spec_id
  pub ids : List ℤ
  pub closed : ClosedAs draft.start draft.fields s.fields ids

-- bound on columns that suit the history, it is not refused, and is the spec again
abbrev pub BoundBack : Columns → PaperSpec → PartitionSpec → Result (Unit {0}) BindFault → Type 0
BoundBack c s new r = (calls : List Call) (answers : List Answer) → ClosedFrom calls answers s → Suits c calls → MatchResult r (λ _. paper_closed new ≡ s) (λ _. ⊥)

-- and so is whatever was read from the spec's record
abbrev pub ReadAndBoundBack : Columns → PaperSpec → PartitionSpec → Result (Unit {0}) BindFault → Type 0
ReadAndBoundBack c s new r =
    (calls : List Call) (answers : List Answer) (t : PaperSpec) (bytes : List ℕ) → ClosedFrom calls answers t → Suits c calls → RecordOf bytes t → RecordOf bytes s
    → MatchResult r (λ _. paper_closed new ≡ t) (λ _. ⊥)

-- each field fits, and has a type
abbrev pub FitOnEverySchemaThatShowsTheSame : Columns → List PaperField → Type 0
FitOnEverySchemaThatShowsTheSame c closed = (d : Columns) → Same c d → AllFit d closed × AllKept (each_rules d closed)
