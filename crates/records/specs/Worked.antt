-- Records that were worked out by hand. Assumes nothing.
use Rattle.std.specs.Prelude.{◌≡◌, ℕ, List, [], ◌∷◌, ◌++◌, pos, Some}
use Rattle.partitions.specs.Fields.{PaperSpec, field_of}
use Rattle.partitions.specs.Specs.{blank}
use Rattle.transforms.specs.declared.transform.Transform.TheVariants.{Day}
use Rattle.records.specs.Format.{record_bytes}

abbrev pub BlankIsEightZeros : Type 0
BlankIsEightZeros = record_bytes blank ≡ 0 ∷ 0 ∷ 0 ∷ 0 ∷ 0 ∷ 0 ∷ 0 ∷ 0 ∷ []

-- spec 0 with one field: source 4, id 1000, name d, day
abbrev pub one_day : PaperSpec
one_day = record { spec_id = Some (pos 0); fields = field_of (pos 4) (Some (pos 1000)) (0x64 ∷ []) Day ∷ [] }

abbrev pub one_day_entry : List ℕ
one_day_entry = 0x00 ∷ 0x00 ∷ 0x00 ∷ 0x04 ∷ 0x01 ∷ 0x00 ∷ 0x00 ∷ 0x03 ∷ 0xE8 ∷ 0x01 ∷ 0x64 ∷ 0x03 ∷ 0x64 ∷ 0x61 ∷ 0x79 ∷ []

abbrev pub one_day_trailer : List ℕ
one_day_trailer = 0x01 ∷ 0x00 ∷ 0x00 ∷ 0x00 ∷ 0x00 ∷ 0x01 ∷ 0x00 ∷ 0x0F ∷ []

abbrev pub RecordOfOneDay : Type 0
RecordOfOneDay = record_bytes one_day ≡ one_day_entry ++ one_day_trailer
