-- The printed text of a transform. Assumes nothing.
use Rattle.std.specs.Prelude.{ℕ, ◌^◌, ◌<◌, List, ◌++◌, codes, decimal}
use Rattle.transforms.specs.declared.transform.Transform.{Transform}
use Rattle.transforms.specs.declared.transform.Transform.TheVariants.{Identity, Bucket, Truncate, Year, Month, Day, Hour, Void, Unknown}

abbrev pub printed : Transform → List ℕ
printed Identity = codes "identity"
printed (Bucket n) = codes "bucket[" ++ (decimal n ++ codes "]")
printed (Truncate n) = codes "truncate[" ++ (decimal n ++ codes "]")
printed Year = codes "year"
printed Month = codes "month"
printed Day = codes "day"
printed Hour = codes "hour"
printed Void = codes "void"
printed Unknown = codes "unknown"

-- a transform that code can hold: its width is a number of 32 bits
abbrev pub Narrow : Transform → Type 0
Narrow Identity = Unit {0}
Narrow (Bucket n) = n < 2 ^ 32
Narrow (Truncate n) = n < 2 ^ 32
Narrow Year = Unit {0}
Narrow Month = Unit {0}
Narrow Day = Unit {0}
Narrow Hour = Unit {0}
Narrow Void = Unit {0}
Narrow Unknown = Unit {0}
