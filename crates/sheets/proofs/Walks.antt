-- The rows that an iterator gives, and the lookups among them.
use Rattle.std.proofs.Common.{◌≡◌, ℕ, ◌<◌, true, false, List, [], ◌∷◌, map, length, ℤ, is_some, Some, None, Option, subst, refl, arith}
use Rattle.std.specs.Str.{bytes_eq}
use Rattle.schemas.specs.Ids.{same}
use Rattle.schemas.specs.Rows.{column_in, id_in}
use Rattle.schemas.specs.declared.schema.Column.{Column}
use Rattle.std.specs.Iterator.{AlwaysYields}
use Rattle.std.proofs.lemmas.Iterator.{YieldsList}
use Rattle.schemas.proofs.Firsts.{Lookup}
use Rattle.sheets.specs.Standing.{Begins, Holds, StepsOver, row_read}
use Rattle.sheets.specs.declared.sheet.row.Row.{Row}
use Rattle.sheets.specs.declared.sheet.row.Rows.{Rows}
use Rattle.sheets.specs.Sheets.{SheetRow}
use Rattle.sheets.specs.SheetColumns.{named}
use Rattle.sheets.proofs.Fills.{Stepped, holds_step, holds_none}
use Rattle.sheets.proofs.Fronts.{placed}

abbrev pub by_id : ℤ → Lookup SheetRow Column
by_id id = record { test = λ row. same row.id id; value = λ row. row.column; find = λ rows. column_in (map named rows) id; none = refl; more = λ _ _. refl }

abbrev pub by_name : List ℕ → Lookup SheetRow ℤ
by_name name = record { test = λ row. bytes_eq row.name name; value = λ row. row.id; find = λ rows. id_in (map named rows) name; none = refl; more = λ _ _. refl }

abbrev pub steps : Rows → Option Row → Rows → Type 0
steps s r t = StepsOver s.left.now r t.left.now

-- the iterator gives the rows that its bytes hold
gives : (rows : List SheetRow) (s : Rows) → Holds s.left.now rows → AlwaysYields steps row_read s rows
gives [] s h = λ x t step. let p = holds_step s.left.now [] (row_read x) t.left.now h step in cc (p.is)
gives (row ∷ rows) s h =
    (λ t step. cc (holds_none s.left.now (row ∷ rows) h step), λ x t step. turn x t (holds_step s.left.now (row ∷ rows) (row_read x) t.left.now h step) (gives rows t))
  where
    turn : (x : Row) (t : Rows) → Stepped (row ∷ rows) (row_read x) t.left.now → (Holds t.left.now rows → AlwaysYields steps row_read t rows) → (row_read x ≡ row) × AlwaysYields steps row_read t rows
    turn x t p f = (cc (p.is), f (subst (Holds t.left.now) (cc (p.is)) p.holds))

pub rows_yield : (rows : List SheetRow) (s : Rows) → Holds s.left.now rows → YieldsList steps row_read s rows
rows_yield rows s h = record { runs = gives rows s h }

pub shorter : (bs : List ℕ) (row : SheetRow) (after : List ℕ) → Begins bs row after → length after < length bs
shorter bs row after b = omega (arith, (placed bs row after b).long)

pub steps_some : (bs : List ℕ) (r : Option Row) (rest : List ℕ) → StepsOver bs r rest → is_some r ≡ true → (row : SheetRow) × Begins bs row rest
steps_some bs None rest step e = cc
steps_some bs (Some row) rest step e = (row_read row, step)

pub steps_none : (bs : List ℕ) (r : Option Row) (rest : List ℕ) → StepsOver bs r rest → is_some r ≡ false → (row : SheetRow) (after : List ℕ) → Begins bs row after → ⊥
steps_none bs None rest step e = step
steps_none bs (Some row) rest step e = cc
