-- Rows among which nothing repeats and nothing lacks a name. Assumes nothing.
use Rattle.std.specs.Prelude.{◌≡◌, ℕ, ◌<◌, true, List, length, get_or, is_some, ◌≢◌, slice_index_or}
use Rattle.schemas.specs.Rows.{Row}

-- f differs at any two places of the rows
abbrev pub Apart : {V : Type 0} → (Row → V) → List Row → Type 0
Apart f rows = (i j : ℕ) (d : Row) → i < j → j < length rows → f (slice_index_or rows i d) ≢ f (slice_index_or rows j d)

-- f is v at no place of the rows
abbrev pub Nowhere : {V : Type 0} → (Row → V) → V → List Row → Type 0
Nowhere f v rows = (k : ℕ) (d : Row) → k < length rows → f (slice_index_or rows k d) ≢ v

pub record Regular (rows : List Row) : Type 0 where
  pub ids : Apart (λ row. row.id) rows
  pub names : Apart (λ row. row.name) rows
  pub named : (k : ℕ) (d : Row) → k < length rows → is_some (get_or rows k d).name ≡ true

-- the row has a name, and the rows have neither its id nor its name
pub record New (row : Row) (rows : List Row) : Type 0 where
  pub id : Nowhere (λ other. other.id) row.id rows
  pub name : Nowhere (λ other. other.name) row.name rows
  pub named : is_some row.name ≡ true
