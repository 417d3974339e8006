-- The fields of a list that keeps the rules, on paper. Assumes nothing.
use Rattle.std.specs.Prelude.{List}
use Rattle.partitions.specs.Fields.{PaperField}
use Rattle.partitions.specs.Views.{papers}
use Rattle.partitions.specs.declared.fields.FieldList.{FieldList}

abbrev pub listed : FieldList → List PaperField
listed l = papers l.fields
