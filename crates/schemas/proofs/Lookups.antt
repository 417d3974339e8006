-- What a schema's lookups say of each other, and of a schema that shows the same.
use mathlib.Core.Path.{fun_ext}
use Rattle.std.proofs.Common.{◌≡◌, ℕ, true, List, ℤ, is_some, Some, None, Option, refl}
use Rattle.std.specs.Option.{option_map}
use Rattle.schemas.specs.declared.schema.Column.{Column}
use Rattle.schemas.specs.Columns.{Columns, Sound, named_in, id_of, typed, with_type}
use Rattle.schemas.specs.Laws.{SameColumnsAreEqual}

pub same_columns : SameColumnsAreEqual
same_columns c d s = λ i. record { by_id = fun_ext s.ids i; by_name = fun_ext s.names i }

id_of_found : (id : ℤ) (o : Option Column) → is_some o ≡ true → option_map id_of (option_map (with_type id) o) ≡ Some id
id_of_found id None e = cc
id_of_found id (Some column) e = refl

id_of_typed : (c : Columns) (o : Option ℤ) → ((id : ℤ) → o ≡ Some id → is_some (c.by_id id) ≡ true) → option_map id_of (typed c o) ≡ o
id_of_typed c None h = refl
id_of_typed c (Some id) h = id_of_found id (c.by_id id) (h id refl)

-- the answer to a name has the id that the name leads to, and there is none exactly when the name leads to none
pub named_id : (c : Columns) → Sound c → (name : List ℕ) → option_map id_of (named_in c name) ≡ c.by_name name
named_id c s name = id_of_typed c (c.by_name name) (s name)
