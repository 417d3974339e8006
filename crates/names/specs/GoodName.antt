-- What a name must be. Assumes nothing.
use Rattle.std.specs.Prelude.{ℕ, ◌<◌, ◌≤◌, List, length, IsUtf8}
use Rattle.names.specs.WellFormed.{WellFormed}

pub record GoodName (name : List ℕ) : Type 0 where
  pub some : 0 < length name
  pub short : length name ≤ 128
  pub well_formed : WellFormed name
  pub utf8 : IsUtf8 name
