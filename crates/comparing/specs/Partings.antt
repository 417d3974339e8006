-- Where two plans part. Assumes nothing.
use Rattle.std.specs.Prelude.{◌≡◌, ℕ, ◌<◌, List, Option, Some, None}
use Rattle.std.specs.List.{slice_get}
use Rattle.partitions.specs.Fields.{PaperField, PaperSpec}
use Rattle.comparing.specs.declared.Parting.{Parting}
use Rattle.comparing.specs.declared.Parting.TheVariants.{SpecIds, Fields}

-- the place is the first where the two do not have the same; past the end of a list there is nothing
pub record PartAt (fs gs : List PaperField) (place : ℕ) : Type 0 where
  pub before : (k : ℕ) → k < place → slice_get fs k ≡ slice_get gs k
  pub here : slice_get fs place ≡ slice_get gs place → ⊥

-- they part nowhere and are equal, or in the spec id, or else in a field
abbrev pub Parts : PaperSpec → PaperSpec → Option Parting → Type 0
Parts s t None = s ≡ t
Parts s t (Some SpecIds) = s.spec_id ≡ t.spec_id → ⊥
Parts s t (Some (Fields place)) = (s.spec_id ≡ t.spec_id) × PartAt s.fields t.fields place
