-- Laws of drafts over every history of calls. Assumes nothing.
use Rattle.std.specs.Prelude.{◌≡◌, true, false, List, [], ◌∷◌, map, is_some, Some, None, ◌≢◌}
use Rattle.std.specs.List.{AllByRecursion}
use Rattle.transforms.specs.Results.{result_of}
use Rattle.transforms.specs.declared.transform.Transform.TheVariants.{Void}
use Rattle.schemas.specs.Columns.{Columns, is_primitive}
use Rattle.schemas.specs.declared.schema.Column.{Column}
use Rattle.partitions.specs.Buildable.{Buildable}
use Rattle.partitions.specs.Fields.{PaperField}
use Rattle.drafts.specs.Calls.{Call, set_spec_id, set_start, add_field, add_named, add_batch, Answer, Step, Ran, SuitsCall, Suits}
use Rattle.drafts.specs.Paper.{Paper, with_fields}
use Rattle.drafts.specs.SourceRules.{Admitted}

-- both accept, or both tell the same number, value and index
abbrev pub SameAnswer : Answer → Answer → Type 0
SameAnswer None None = Unit {0}
SameAnswer None (Some u) = ⊥
SameAnswer (Some t) None = ⊥
SameAnswer (Some t) (Some u) = (t.number ≡ u.number) × (t.value ≡ u.value) × (t.index ≡ u.index)

abbrev pub SameAnswers : List Answer → List Answer → Type 0
SameAnswers [] [] = Unit {0}
SameAnswers [] (b ∷ bs) = ⊥
SameAnswers (a ∷ as') [] = ⊥
SameAnswers (a ∷ as') (b ∷ bs) = SameAnswer a b × SameAnswers as' bs

-- a call has one answer and leaves one draft
abbrev pub OneAnswer : Type 0
OneAnswer = (p : Paper) (call : Call) (a b : Answer) (q r : Paper) → Step p call a q → Step p call b r → (q ≡ r) × SameAnswer a b

-- and so has a history
abbrev pub OneRun : Type 0
OneRun = (calls : List Call) (answers others : List Answer) (p q : Paper) → Ran calls answers p → Ran calls others q → (p ≡ q) × SameAnswers answers others

-- the field's source is a column, of whose type the transform has a result; unless the field is void, the column is
-- primitive and not inside a list or a map
pub record Fits (c : Columns) (f : PaperField) : Type 0 where
  pub source : Column
  pub found : c.by_id f.source ≡ Some source
  pub result : is_some (result_of f.transform source.field_type) ≡ true
  pub primitive : (f.transform ≢ Void) → is_primitive source.field_type ≡ true
  pub unmarked : (f.transform ≢ Void) → source.is_marked ≡ false

-- the columns admit each field, and so each fits
abbrev pub AllFit : Columns → List PaperField → Type 0
AllFit c fs = AllByRecursion (Admitted c) fs × AllByRecursion (Fits c) fs

-- the draft's fields fit on every schema that shows the same columns as each that was passed
abbrev pub FitOnEverySuitingSchema : Paper → Type 0
FitOnEverySuitingSchema p = (calls : List Call) (answers : List Answer) → Ran calls answers p → (c : Columns) → Suits c calls → AllFit c p.fields

abbrev pub AdmittedOnEverySuitingSchema : Type 0
AdmittedOnEverySuitingSchema = (p : Paper) → FitOnEverySuitingSchema p

-- the call, made with other columns
abbrev pub made_with : Columns → Call → Call
made_with c (set_spec_id id) = set_spec_id id
made_with c (set_start n) = set_start n
made_with c (add_field d f) = add_field c f
made_with c (add_named d source name transform) = add_named c source name transform
made_with c (add_batch d es) = add_batch c es

-- what a call answers and leaves depends on a schema only through its columns
abbrev pub StepByColumns : Type 0
StepByColumns = (c : Columns) (p q : Paper) (call : Call) (answer : Answer) → SuitsCall c call → Step p call answer q → Step p (made_with c call) answer q

-- and so does a history: it is that of the same calls, all made with one suiting schema
abbrev pub RunByColumns : Type 0
RunByColumns = (c : Columns) (calls : List Call) (answers : List Answer) (p : Paper) → Suits c calls → Ran calls answers p → Ran (map (made_with c) calls) answers p

-- fields that an unbound draft can hold, and that the columns admit, are accepted as a batch by a draft with no fields
abbrev pub BuildableAndAdmittedIsAccepted : Type 0
BuildableAndAdmittedIsAccepted =
    (c : Columns) (p : Paper) (fs : List PaperField) → p.fields ≡ [] → Buildable fs → AllByRecursion (Admitted c) fs
    → Step p (add_batch c (map Some fs)) None (with_fields fs p)
