-- What stands at a place of an area. Assumes nothing.
use Rattle.std.specs.Prelude.{ℕ, ◌+◌, cond, List, length, take, drop, Some, None, Option, nat_le}

-- n bytes from start on, where the area has them all
abbrev pub placed : ℕ → ℕ → List ℕ → Option (List ℕ)
placed start n area = cond (nat_le (start + n) (length area)) (Some (take n (drop start area))) None
