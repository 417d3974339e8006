-- The entries of a plan that an iterator has left. Assumes nothing.
use Rattle.std.specs.Prelude.{ℕ, List, take, drop}
use Rattle.partitions.specs.Fields.{PaperField, PaperSpec}

-- those from the place on, up to the end
unfoldable pub entries_left : PaperSpec → ℕ → ℕ → List PaperField
entries_left plan place end = drop place (take end plan.fields)
