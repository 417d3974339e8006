-- The fields of a closed spec. Assumes nothing.
use Rattle.std.proofs.Common.{◌≡◌, List, [], ◌∷◌, length, arith}
use Rattle.std.specs.List.{AllByRecursion}
use Rattle.std.proofs.lemmas.List.{length-map}
use Rattle.names.specs.GoodName.{GoodName}
use Rattle.names.specs.NameBytes.{name_bytes}
use Rattle.names.proofs.Good.{held}
use Rattle.numbering.specs.Ids.{Distinct}
use Rattle.partitions.specs.Buildable.{Buildable}
use Rattle.closed.specs.Closed.{paper_closed, closed_ids}
use Rattle.closed.specs.Opened.{opened, openeds}
use Rattle.closed.specs.declared.field.PartitionField.{PartitionField}
use Rattle.closed.specs.declared.spec.PartitionSpec.{PartitionSpec}
use Rattle.closed.proofs.Bares.{opened_state, apart_distinct}

pub length_closed : (s : PartitionSpec) → length (paper_closed s).fields ≡ length s.fields
length_closed s = length-map s.fields opened

good_names : (fs : List PartitionField) → AllByRecursion (λ f. GoodName f.name) (openeds fs)
good_names [] = tt
good_names (f ∷ fs) = (held (name_bytes f.name) f.name.good, good_names fs)

pub buildable_closed : (s : PartitionSpec) → Buildable (paper_closed s).fields
buildable_closed s =
    let size = length_closed s in
    record { few = omega (arith, s.few); good = good_names s.fields; names = s.names; sources = s.sources; ids = s.ids }

pub distinct_closed : (s : PartitionSpec) → Distinct (closed_ids s)
distinct_closed s = apart_distinct (paper_closed s).fields (closed_ids s) (opened_state s.fields) s.ids
