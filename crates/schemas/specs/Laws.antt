-- Laws of schemas that show the same columns. Assumes nothing.
use Rattle.std.specs.Prelude.{◌≡◌, ℕ, List, ℤ}
use Rattle.schemas.specs.Columns.{Columns, Same, named_in}

-- so every function of columns has equal values at the two
abbrev pub SameColumnsAreEqual : Type 0
SameColumnsAreEqual = (c d : Columns) → Same c d → c ≡ d

abbrev pub SameColumnsSameAnswers : Type 0
SameColumnsSameAnswers = (c d : Columns) → Same c d → ((id : ℤ) → c.by_id id ≡ d.by_id id) × ((name : List ℕ) → named_in c name ≡ named_in d name)
