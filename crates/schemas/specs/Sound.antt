-- A name leads only to an id with a column: the reason that a schema gives in its ghost member. Assumes nothing.
use Rattle.std.specs.Prelude.{◌≡◌, ℕ, Bool, true, false, cond, List, [], ◌∷◌, ℤ, pos, negsuc, is_some, Some, None, Option, refl}
use Rattle.std.proofs.Common.{sym, ap, ◌∙◌}
use Rattle.std.proofs.lemmas.Bool.{eq-eqb}
use Rattle.schemas.specs.declared.schema.Column.{Column}
use Rattle.schemas.specs.Ids.{same, has}
use Rattle.schemas.specs.Columns.{Columns, Sound}
use Rattle.schemas.specs.Rows.{Row, column_in, id_in, is_called, shown}
use Rattle.schemas.specs.Selected.{selected, only_in}

pub same_refl : (x : ℤ) → same x x ≡ true
same_refl (pos n) = eq-eqb n n refl
same_refl (negsuc n) = eq-eqb n n refl

-- an id that a name leads to stands in some row
sound_more : (row : Row) (rows : List Row) (name : List ℕ) (id : ℤ) → (id_in rows name ≡ Some id → is_some (column_in rows id) ≡ true)
    → (b : Bool) → cond b (Some row.id) (id_in rows name) ≡ Some id → is_some (column_in (row ∷ rows) id) ≡ true
sound_more row rows name id rest true f =
    let q : row.id ≡ id = cc in
    ap (λ z. is_some (cond (same row.id z) (Some row.column) (column_in rows z))) (sym q) ∙ ap (λ b. is_some (cond b (Some row.column) (column_in rows row.id))) (same_refl row.id)
sound_more row rows name id rest false f =
    elim (same row.id id) as (λ b. is_some (cond b (Some row.column) (column_in rows id)) ≡ true) [ true ↦ refl | false ↦ rest f ]

pub rows_sound : (rows : List Row) → Sound (shown rows)
rows_sound [] name id e = cc
rows_sound (row ∷ rows) name id e = sound_more row rows name id (rows_sound rows name id) (is_called row.name name) e

selected_one : (ids : List ℤ) (by_id : ℤ → Option Column) (id : ℤ) (o : Option ℤ) → ((i : ℤ) → o ≡ Some i → is_some (by_id i) ≡ true)
    → only_in ids o ≡ Some id → is_some (cond (has ids id) (by_id id) None) ≡ true
selected_one ids by_id id None h e = cc
selected_one ids by_id id (Some x) h e = at (has ids x) refl e
  where
    at : (b : Bool) → has ids x ≡ b → cond b (Some x) None ≡ Some id → is_some (cond (has ids id) (by_id id) None) ≡ true
    at true t f =
        let q : x ≡ id = cc in
        ap (λ z. is_some (cond (has ids z) (by_id z) None)) (sym q) ∙ ap (λ b. is_some (cond b (by_id x) None)) t ∙ h x refl
    at false t f = cc

pub selected_sound : (ids : List ℤ) (c : Columns) → Sound c → Sound (selected ids c)
selected_sound ids c s name id e = selected_one ids c.by_id id (c.by_name name) (λ i f. s name i f) e
