-- Fields apart from their ids, and their ids alone. Assumes nothing.
use Rattle.std.specs.Prelude.{ℕ, List, map, ℤ, Option}
use Rattle.transforms.specs.declared.transform.Transform.{Transform}
use Rattle.partitions.specs.Fields.{PaperField}

-- all of a field but its id
pub record Bare : Type 0 where
  pub source : ℤ
  pub name : List ℕ
  pub transform : Transform

abbrev pub bare : PaperField → Bare
bare f = record { source = f.source; name = f.name; transform = f.transform }

abbrev pub bares : List PaperField → List Bare
bares fs = map bare fs

-- the id that each field states, or none
abbrev pub stateds : List PaperField → List (Option ℤ)
stateds fs = map (λ (f : PaperField). f.id) fs
