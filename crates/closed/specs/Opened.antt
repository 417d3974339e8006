-- Fields that have their ids, as fields of a draft that state them. Assumes nothing.
use Rattle.std.specs.Prelude.{List, map, ℤ, Some}
use Rattle.names.specs.NameBytes.{name_bytes}
use Rattle.partitions.specs.Fields.{PaperField}
use Rattle.closed.specs.declared.field.PartitionField.{PartitionField}

abbrev pub opened : PartitionField → PaperField
opened f = record { source = f.source_id; id = Some f.field_id; name = name_bytes f.name; transform = f.transform }

abbrev pub openeds : List PartitionField → List PaperField
openeds fs = map opened fs

abbrev pub ids_of : List PartitionField → List ℤ
ids_of fs = map (λ (f : PartitionField). f.field_id) fs
