-- Sort orders worked by hand. Assumes nothing.
use Rattle.std.specs.Prelude.{true, false, [], ◌∷◌, ℤ, pos, Some, None, Ok, Err, codes}
use Rattle.faults.specs.Rules.{AllKept}
use Rattle.schemas.specs.Columns.{Columns}
use Rattle.schemas.specs.Rows.{shown}
use Rattle.sorts.specs.Drafts.{Draft, Order, Builds, BuildsOn}
use Rattle.sorts.specs.SortRules.{field_rules}
use Rattle.sorts.specs.declared.sort.NullOrder.TheVariants.{First}
use Rattle.sorts.specs.declared.sort.SortDirection.TheVariants.{Ascending}
use Rattle.sorts.specs.declared.sort.SortFault.TheVariants.{SourceNotPrimitive, IdWithoutFields, ZeroWithFields}
use Rattle.sorts.specs.declared.sort.SortField.{SortField}
use Rattle.transforms.specs.declared.datatypes.PrimitiveType.TheVariants.{Int}
use Rattle.transforms.specs.declared.datatypes.«Type».TheVariants.{Primitive, List as Listed}
use Rattle.transforms.specs.declared.transform.Transform.{Transform}
use Rattle.transforms.specs.declared.transform.Transform.TheVariants.{Bucket, Void}

-- id 7 without fields is 31, id 0 with a field is 32, and a draft without an id and with a field that suits the columns becomes order 1
pub record ZeroIsTheUnsortedOrder : Type 0 where
  pub seven : (old : Order) → Builds (record { id = Some (pos 7); fields = [] }) old old (Err IdWithoutFields)
  pub zero : (field : SortField) (old : Order) → Builds (record { id = Some (pos 0); fields = field ∷ [] }) old old (Err ZeroWithFields)
  pub one : (c : Columns) (field : SortField) (old : Order) → AllKept (field_rules c field) → BuildsOn c (record { id = None; fields = field ∷ [] }) old (record { id = pos 1; fields = field ∷ [] }) (Ok tt)

-- column 1 is a list, column 2 its int element, which is marked
abbrev pub list_of_ints : Columns
list_of_ints =
    shown (record { id = pos 1; column = record { field_type = Listed 0; is_marked = false }; name = Some (codes "l") }
    ∷ record { id = pos 2; column = record { field_type = Primitive Int; is_marked = true }; name = Some (codes "l.element") }
    ∷ [])

abbrev pub rising : ℤ → Transform → SortField
rising source t = record { source_id = source; transform = t; direction = Ascending; null_order = First }

abbrev by : ℤ → Transform → Draft
by source t = record { id = None; fields = rising source t ∷ [] }

-- a list is nothing to sort by, not even by void (25); its element is
pub record SortedByWhatIsPrimitive : Type 0 where
  pub list : (old : Order) → BuildsOn list_of_ints (by (pos 1) Void) old old (Err SourceNotPrimitive)
  pub element : (old : Order) → BuildsOn list_of_ints (by (pos 2) (Bucket 16)) old (record { id = pos 1; fields = rising (pos 2) (Bucket 16) ∷ [] }) (Ok tt)
