-- The columns of a schema of which only some ids are shown. Assumes nothing.
use Rattle.std.specs.Prelude.{cond, List, ℤ, Some, None, Option}
use Rattle.schemas.specs.Ids.{has}
use Rattle.schemas.specs.Columns.{Columns}

abbrev pub only_in : List ℤ → Option ℤ → Option ℤ
only_in ids None = None
only_in ids (Some id) = cond (has ids id) (Some id) None

-- another id leads to nothing, and so does a name that leads to one
abbrev pub selected : List ℤ → Columns → Columns
selected ids c = record { by_id = λ id. cond (has ids id) (c.by_id id) None; by_name = λ name. only_in ids (c.by_name name) }
