-- Kept fields and what they are on paper. Assumes nothing.
use Rattle.std.proofs.Common.{List, [], ◌∷◌}
use Rattle.std.specs.List.{AllByRecursion}
use Rattle.names.specs.GoodName.{GoodName}
use Rattle.names.specs.NameBytes.{name_bytes}
use Rattle.names.proofs.Good.{held}
use Rattle.partitions.specs.Views.{papers}
use Rattle.partitions.specs.declared.field.UnboundPartitionField.{UnboundPartitionField}

-- a kept name is a good one
pub good_names : (fs : List UnboundPartitionField) → AllByRecursion (λ f. GoodName f.name) (papers fs)
good_names [] = tt
good_names (f ∷ fs) = (held (name_bytes f.name) f.name.good, good_names fs)
