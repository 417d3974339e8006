-- Laws of rows: the first row decides a lookup, and of regular rows each is found. Assumes nothing.
use Rattle.std.specs.Prelude.{◌≡◌, ℕ, ◌<◌, List, length, get_or, ℤ, Some, None, ◌≢◌, slice_index_or}
use Rattle.schemas.specs.Regular.{Nowhere, Regular}
use Rattle.schemas.specs.Rows.{Row, column_in, id_in}

-- f is v at place k of the rows, and at no place before it
pub record First {V : Type 0} (f : Row → V) (v : V) (rows : List Row) (k : ℕ) : Type 0 where
  pub within : k < length rows
  pub here : (d : Row) → f (slice_index_or rows k d) ≡ v
  pub before : (j : ℕ) (d : Row) → j < k → f (slice_index_or rows j d) ≢ v

pub record FirstRowDecides : Type 0 where
  pub column : (rows : List Row) (id : ℤ) (k : ℕ) (d : Row) → First (λ row. row.id) id rows k → column_in rows id ≡ Some (get_or rows k d).column
  pub no_column : (rows : List Row) (id : ℤ) → Nowhere (λ row. row.id) id rows → column_in rows id ≡ None
  pub id : (rows : List Row) (name : List ℕ) (k : ℕ) (d : Row) → First (λ row. row.name) (Some name) rows k → id_in rows name ≡ Some (get_or rows k d).id
  pub no_id : (rows : List Row) (name : List ℕ) → Nowhere (λ row. row.name) (Some name) rows → id_in rows name ≡ None

pub record RegularRowsAreFound : Type 0 where
  pub by_id : (rows : List Row) → Regular rows → (k : ℕ) (d : Row) → k < length rows → column_in rows (get_or rows k d).id ≡ Some (get_or rows k d).column
  pub by_name : (rows : List Row) → Regular rows → (k : ℕ) (d : Row) → k < length rows → (name : List ℕ) → (get_or rows k d).name ≡ Some name → id_in rows name ≡ Some (get_or rows k d).id
