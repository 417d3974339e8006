-- What a build promises of every schema that shows the same columns. Assumes nothing.
use Rattle.std.specs.Prelude.{◌≡◌, true, is_some, Some, Result}
use Rattle.std.specs.List.{AllByRecursion}
use Rattle.transforms.specs.Results.{result_of}
use Rattle.schemas.specs.declared.schema.Column.{Column}
use Rattle.schemas.specs.Columns.{Columns, Same, is_primitive}
use Rattle.sorts.specs.declared.sort.SortField.{SortField}
use Rattle.sorts.specs.declared.sort.SortFault.{SortFault}
use Rattle.sorts.specs.Drafts.{Draft, Order}
use Rattle.sorts.specs.SortRules.{build_rules, Answers}

-- the field's source is a column of a primitive type, of which its transform makes something
pub record Fits (c : Columns) (field : SortField) : Type 0 where
  pub source : Column
  pub found : c.by_id field.source_id ≡ Some source
  pub primitive : is_primitive source.field_type ≡ true
  pub result : is_some (result_of field.transform source.field_type) ≡ true

-- each field of the order fits
abbrev pub FitOnEverySchemaThatShowsTheSame : Columns → Order → Type 0
FitOnEverySchemaThatShowsTheSame c order = (d : Columns) → Same c d → AllByRecursion (Fits d) order.fields

-- the answer of a build is the one by the rules of each: a build depends on a schema only through its columns
abbrev pub SameAnswerOnEverySchemaThatShowsTheSame : Columns → Draft → Result (Unit {0}) SortFault → Type 0
SameAnswerOnEverySchemaThatShowsTheSame c draft r = (d : Columns) → Same c d → Answers (build_rules d draft.id draft.fields) r
