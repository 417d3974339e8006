-- The lookups of rows and of records, and what they find.
use Rattle.std.proofs.Common.{◌≡◌, ℕ, zero, suc, ◌<◌, false, List, [], ◌∷◌, length, get_or, ℤ, pos, Some, None, Decides, Option, sym, refl, ap, ◌∙◌, arith}
use Rattle.std.proofs.lemmas.Slice.Eq.{bytes_eq-Decides}
use Rattle.std.proofs.lemmas.List.{get_or_default}
use Rattle.std.proofs.lemmas.Bool.{cond-true, cond-false, false_from_ne_true}
use Rattle.std.proofs.lemmas.Bool.Decides.{Decides-like}
use Rattle.transforms.specs.declared.datatypes.PrimitiveType.TheVariants.{Boolean}
use Rattle.transforms.specs.declared.datatypes.«Type».TheVariants.{Primitive}
use Rattle.schemas.specs.declared.schema.Column.{Column}
use Rattle.schemas.specs.declared.table.ColumnRecord.{ColumnRecord}
use Rattle.schemas.specs.Ids.{same}
use Rattle.schemas.specs.Regular.{Apart, Nowhere}
use Rattle.schemas.specs.RowLaws.{First, FirstRowDecides, RegularRowsAreFound}
use Rattle.schemas.specs.Rows.{Row, column_in, id_in, is_called}
use Rattle.schemas.specs.TableRows.{row_of, rows_of}
use Rattle.schemas.proofs.Firsts.{Lookup}
use Rattle.schemas.proofs.Identity.{same_decides}

-- what is read past the records' end
abbrev pub blank : ColumnRecord
blank = record { id = pos 0; field_type = Primitive Boolean; is_marked = false; name = record { start = 0; length = 0 } }

abbrev pub column_by_row : ℤ → Lookup Row Column
column_by_row id = record { test = λ row. same row.id id; value = λ row. row.column; find = λ rows. column_in rows id; none = refl; more = λ _ _. refl }

abbrev pub id_by_row : List ℕ → Lookup Row ℤ
id_by_row name = record { test = λ row. is_called row.name name; value = λ row. row.id; find = λ rows. id_in rows name; none = refl; more = λ _ _. refl }

abbrev pub column_by_record : List ℕ → ℤ → Lookup ColumnRecord Column
column_by_record area id =
    record { test = λ r. same r.id id; value = λ r. (row_of area r).column; find = λ rs. column_in (rows_of rs area) id; none = refl; more = λ _ _. refl }

abbrev pub id_by_record : List ℕ → List ℕ → Lookup ColumnRecord ℤ
id_by_record area name =
    record { test = λ r. is_called (row_of area r).name name; value = λ r. r.id; find = λ rs. id_in (rows_of rs area) name; none = refl; more = λ _ _. refl }

pub called_decides : (o : Option (List ℕ)) (name : List ℕ) → Decides (is_called o name) (o ≡ Some name)
called_decides None name = (λ e. cc, λ e. cc)
called_decides (Some own) name = Decides-like _ (λ e. ap Some e) (λ e. cc) (bytes_eq-Decides own name)

-- a lookup of rows whose test decides that a row's key is v
module _ {V W : Type 0} (l : Lookup Row V) (key : Row → W) (v : W) (decides : (row : Row) → Decides (l.test row) (key row ≡ v)) where
  passed_over : (row : Row) (rows : List Row) → (key row ≡ v → ⊥) → l.find (row ∷ rows) ≡ l.find rows
  passed_over row rows n = l.more row rows ∙ cond-false _ _ _ (false_from_ne_true (l.test row) (λ e. n ((decides row).0 e)))

  at_first : (rows : List Row) (k : ℕ) (d : Row) → First key v rows k → l.find rows ≡ Some (l.value (get_or rows k d))
  at_first [] k d h = let z : k < 0 = h.within in absurd (omega arith)
  at_first (row ∷ rows) zero d h = l.more row rows ∙ cond-true _ _ _ ((decides row).1 (h.here row))
  at_first (row ∷ rows) (suc k) d h =
      passed_over row rows (h.before 0 row (omega arith))
      ∙ at_first rows k d (record { within = omega (arith, h.within); here = h.here; before = λ j e lt q. h.before (suc j) e (omega arith) q })

  at_none : (rows : List Row) → Nowhere key v rows → l.find rows ≡ None
  at_none [] n = l.none
  at_none (row ∷ rows) n = passed_over row rows (n 0 row (omega arith)) ∙ at_none rows (λ k d lt q. n (suc k) d (omega arith) q)

pub first_decides : FirstRowDecides
first_decides =
    record {
      column = λ rows id. at_first (column_by_row id) (λ row. row.id) id (λ row. same_decides row.id id) rows;
      no_column = λ rows id. at_none (column_by_row id) (λ row. row.id) id (λ row. same_decides row.id id) rows;
      id = λ rows name. at_first (id_by_row name) (λ row. row.name) (Some name) (λ row. called_decides row.name name) rows;
      no_id = λ rows name. at_none (id_by_row name) (λ row. row.name) (Some name) (λ row. called_decides row.name name) rows;
    }

-- a place at which f is v is the first, where f differs at any two
first_apart : {V : Type 0} (f : Row → V) (v : V) (rows : List Row) (k : ℕ) (d : Row) → Apart f rows → k < length rows → f (get_or rows k d) ≡ v → First f v rows k
first_apart f v rows k d apart lt e =
    record {
      within = lt;
      here = λ d'. ap f (get_or_default rows k d' d lt) ∙ e;
      before = λ j d' below q. apart j k d' below lt (q ∙ sym e ∙ ap f (get_or_default rows k d d' lt));
    }

pub regular_found : RegularRowsAreFound
regular_found =
    record {
      by_id = λ rows r k d lt. first_decides.column rows (get_or rows k d).id k d (first_apart (λ row. row.id) (get_or rows k d).id rows k d r.ids lt refl);
      by_name = λ rows r k d lt name e. first_decides.id rows name k d (first_apart (λ row. row.name) (Some name) rows k d r.names lt e);
    }
