-- The draft on paper. Assumes nothing.
use Rattle.std.specs.Prelude.{List, [], ℤ, pos}
use Rattle.partitions.specs.Fields.{PaperField}

-- ids that are not stated are counted from the start on
pub record Paper : Type 0 where
  pub spec_id : ℤ
  pub start : ℤ
  pub fields : List PaperField

abbrev pub blank_paper : Paper
blank_paper = record { spec_id = pos 0; start = pos 999; fields = [] }

abbrev pub with_spec_id : ℤ → Paper → Paper
with_spec_id id p = record { spec_id = id; start = p.start; fields = p.fields }

abbrev pub with_start : ℤ → Paper → Paper
with_start n p = record { spec_id = p.spec_id; start = n; fields = p.fields }

abbrev pub with_fields : List PaperField → Paper → Paper
with_fields fs p = record { spec_id = p.spec_id; start = p.start; fields = fs }
