-- Result types against the Table Spec's table: as there, but for day and unknown. Assumes nothing.
use Rattle.std.specs.Prelude.{◌≡◌, true, false, IfSome, Option, MatchOption}
use Rattle.transforms.specs.declared.datatypes.PrimitiveType.TheVariants.{Date}
use Rattle.transforms.specs.declared.datatypes.«Type».{«Type» as ColumnType}
use Rattle.transforms.specs.declared.datatypes.«Type».TheVariants.{Primitive}
use Rattle.transforms.specs.declared.transform.Transform.{Transform}
use Rattle.transforms.specs.declared.transform.Transform.TheVariants.{Identity, Bucket, Truncate, Year, Month, Day, Hour, Void, Unknown}
use Rattle.transforms.specs.TableSpec.{Line, line, takes, Given}

-- the types that the line takes have a result, and no others
abbrev pub Follows : Line → ColumnType → (ColumnType → Type 0) → Option ColumnType → Type 0
Follows l s Result o = MatchOption o (takes l.sources s ≡ false) (λ r. (takes l.sources s ≡ true) × Result r)

-- what a transform of the table gives: the line's result; where the line of day has int, it is date
abbrev pub Gave : Transform → Line → ColumnType → ColumnType → Type 0
Gave Identity l s r = Given l.gives s r
Gave (Bucket n) l s r = Given l.gives s r
Gave (Truncate n) l s r = Given l.gives s r
Gave Year l s r = Given l.gives s r
Gave Month l s r = Given l.gives s r
Gave Day l s r = r ≡ Primitive Date
Gave Hour l s r = Given l.gives s r
Gave Void l s r = Given l.gives s r
Gave Unknown l s r = Given l.gives s r

-- the result of a transform on a type follows the transform's line; unknown has none
abbrev pub AsDocumented : Transform → ColumnType → Option ColumnType → Type 0
AsDocumented t s o = IfSome (line t) (λ l. Follows l s (Gave t l s) o)
