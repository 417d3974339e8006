-- The id 0 is the unsorted order's alone. Assumes nothing.
use Rattle.std.specs.Prelude.{◌≡◌, List, length, ℤ, pos}
use Rattle.sorts.specs.declared.sort.SortField.{SortField}

abbrev pub ZeroIsUnsorted : ℤ → List SortField → Type 0
ZeroIsUnsorted id fields = (id ≡ pos 0 → length fields ≡ 0) × (length fields ≡ 0 → id ≡ pos 0)
