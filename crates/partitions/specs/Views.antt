-- What the code's fields are on paper. Assumes nothing.
use Rattle.std.specs.Prelude.{List, map}
use Rattle.names.specs.NameBytes.{name_bytes}
use Rattle.partitions.specs.Fields.{PaperField}
use Rattle.partitions.specs.declared.field.UnboundPartitionField.{UnboundPartitionField}
use Rattle.partitions.specs.declared.field.FieldView.{FieldView}

abbrev pub paper_field : UnboundPartitionField → PaperField
paper_field f = record { source = f.source_id; id = f.field_id; name = name_bytes f.name; transform = f.transform }

abbrev pub papers : List UnboundPartitionField → List PaperField
papers fs = map paper_field fs

abbrev pub seen : FieldView → PaperField
seen f = record { source = f.source_id; id = f.field_id; name = f.name.now; transform = f.transform }
