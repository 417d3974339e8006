-- The rows of a table of records over an area of names. Assumes nothing.
use Rattle.std.specs.Prelude.{ℕ, List, map}
use Rattle.names.specs.Placed.{placed}
use Rattle.schemas.specs.declared.table.ColumnRecord.{ColumnRecord}
use Rattle.schemas.specs.declared.table.ColumnTable.{ColumnTable}
use Rattle.schemas.specs.Rows.{Row}

-- a record whose name's place passes the area's end has no name
abbrev pub row_of : List ℕ → ColumnRecord → Row
row_of area r =
    record {
      id = r.id;
      column = record { field_type = r.field_type; is_marked = r.is_marked };
      name = placed r.name.start r.name.length area;
    }

abbrev pub rows_of : List ColumnRecord → List ℕ → List Row
rows_of records area = map (row_of area) records

abbrev pub table_rows : ColumnTable → List Row
table_rows table = rows_of table.records.now table.names.now
