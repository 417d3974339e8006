-- Which fields an unbound draft can hold. Assumes nothing.
use Rattle.std.specs.Prelude.{ℕ, ◌<◌, ◌≤◌, List, length, take, slice_index_or}
use Rattle.std.specs.List.{AllByRecursion}
use Rattle.faults.specs.Rules.{AllKept}
use Rattle.names.specs.GoodName.{GoodName}
use Rattle.partitions.specs.AddRules.{add_rules}
use Rattle.partitions.specs.Fields.{PaperField, Named, AlikeOn, HasStatedId}
use Rattle.partitions.specs.Places.{Apart}

abbrev pub SameName : PaperField → PaperField → Type 0
SameName earlier f = Named f.name earlier

abbrev pub BothAlike : PaperField → PaperField → Type 0
BothAlike earlier f = AlikeOn f.source f.transform earlier

abbrev pub SameId : PaperField → PaperField → Type 0
SameId earlier f = HasStatedId f.id earlier

-- at most 64 fields with good names, of which no two have one name, are alike on one source, or state one id
pub record Buildable (fs : List PaperField) : Type 0 where
  pub few : length fs ≤ 64
  pub good : AllByRecursion (λ f. GoodName f.name) fs
  pub names : Apart SameName fs
  pub sources : Apart BothAlike fs
  pub ids : Apart SameId fs

-- added one by one to an empty draft, no field is refused
abbrev pub Built : List PaperField → Type 0
Built fs = (k : ℕ) (d : PaperField) → k < length fs → AllKept (add_rules (take k fs) (slice_index_or fs k d))

abbrev pub BuildableExactlyWhenBuilt : Type 0
BuildableExactlyWhenBuilt = (fs : List PaperField) → (Buildable fs → Built fs) × (Built fs → Buildable fs)
