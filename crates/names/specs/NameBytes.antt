-- The bytes of a kept name. Assumes nothing.
use Rattle.std.specs.Prelude.{ℕ, List, take}
use Rattle.names.specs.declared.name.Name.{Name}

abbrev pub name_bytes : Name → List ℕ
name_bytes name = take name.len name.bytes
