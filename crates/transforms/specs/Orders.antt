-- The order of values and of transforms, and likeness. Assumes nothing.
use Rattle.std.specs.Prelude.{◌≡◌, ℕ, ◌≤◌, Bool, true, false, ◌⊎◌, is_some, Some, None, Option}
use Rattle.transforms.specs.declared.transform.Transform.{Transform}
use Rattle.transforms.specs.declared.transform.Transform.TheVariants.{Identity, Bucket, Truncate, Year, Month, Day, Hour, Void, Unknown}

-- results stand in the order of the values
abbrev pub preserves : Transform → Bool
preserves Identity = true
preserves (Bucket n) = false
preserves (Truncate n) = true
preserves Year = true
preserves Month = true
preserves Day = true
preserves Hour = true
preserves Void = false
preserves Unknown = false

-- how fine a transform cuts time: an hour lies within a day, a day within a month, a month within a year
abbrev pub fineness : Transform → Option ℕ
fineness Identity = None
fineness (Bucket n) = None
fineness (Truncate n) = None
fineness Year = Some 1
fineness Month = Some 2
fineness Day = Some 3
fineness Hour = Some 4
fineness Void = None
fineness Unknown = None

-- s cuts time at least as fine as t
pub record AsFine (s t : Transform) : Type 0 where
  pub own : ℕ
  pub other : ℕ
  pub own_is : fineness s ≡ Some own
  pub other_is : fineness t ≡ Some other
  pub finer : other ≤ own

-- what is ordered by s is ordered by t
abbrev pub Satisfies : Transform → Transform → Type 0
Satisfies s t = (s ≡ t) ⊎ (((s ≡ Identity) × (preserves t ≡ true)) ⊎ AsFine s t)

abbrev pub CutsTime : Transform → Type 0
CutsTime t = is_some (fineness t) ≡ true

-- two transforms that one source may not have both
abbrev pub Alike : Transform → Transform → Type 0
Alike s t = (s ≡ t) ⊎ (CutsTime s × CutsTime t)

-- satisfying is a partial order
pub record SatisfyingIsAPartialOrder : Type 0 where
  pub reflexive : (s : Transform) → Satisfies s s
  pub antisymmetric : (s t : Transform) → Satisfies s t → Satisfies t s → s ≡ t
  pub transitive : (s t u : Transform) → Satisfies s t → Satisfies t u → Satisfies s u
