-- Each transform has the results that the Table Spec's table has for it. Assumes nothing.
use Rattle.std.proofs.Common.{◌≡◌, Option, subst, arith}
use Rattle.transforms.specs.declared.datatypes.«Type».{«Type» as ColumnType}
use Rattle.transforms.specs.declared.transform.Transform.{Transform}
use Rattle.transforms.specs.Results.{result_of}
use Rattle.transforms.specs.Documented.{AsDocumented}

pub documented : (t : Transform) (s : ColumnType) → AsDocumented t s (result_of t s)
documented t s = grind arith

-- the same of an answer that is known to be the result
pub documented_at : (t : Transform) (s : ColumnType) (o : Option ColumnType) → result_of t s ≡ o → AsDocumented t s o
documented_at t s o e = subst (λ (o : Option ColumnType). AsDocumented t s o) e (documented t s)
