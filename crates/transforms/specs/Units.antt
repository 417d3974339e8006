-- The units of time, from coarse to fine. Assumes nothing.
use Rattle.std.specs.Prelude.{ℕ}
use Rattle.transforms.specs.declared.transform.TimeUnit.{TimeUnit}
use Rattle.transforms.specs.declared.transform.TimeUnit.TheVariants.{Year, Month, Day, Hour}

-- the fineness of what cuts time by the unit
abbrev pub rank : TimeUnit → ℕ
rank Year = 1
rank Month = 2
rank Day = 3
rank Hour = 4
