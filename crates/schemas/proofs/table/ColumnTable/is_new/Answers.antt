use Rattle.std.proofs.Common.{sym, ap, is_some, ◌∙◌, w32, SFits, rules}
use Rattle.std.proofs.lemmas.Int.{to_z-of_z}
use Rattle.schemas.specs.TableRows.{row_of, table_rows}
use Rattle.schemas.proofs.Repeats.{new_by_both, new_by_id}
use Rattle.schemas.proofs.table.ColumnTable.is_new.Goals as goal

pub returns-then-is_none : goal.returns-then-is_none
returns-then-is_none c =
    let fits : SFits w32 c.args.row.now.id = search rules in
    new_by_both (row_of c.args.self.now.names.now c.args.row.now) (table_rows c.args.self.now) _ _ _ (to_z-of_z w32 _ fits) c.field_by_id.ensures c.is_none.ensures
    c.in-Some.name.now _ c.in-Some.ensures (ap is_some (sym c.id_by_name.ensures) ∙ c.is_none-then-is_none.ensures) c.if-is_none.true

pub returns-else-is_none : goal.returns-else-is_none
returns-else-is_none c =
    let fits : SFits w32 c.args.row.now.id = search rules in
    new_by_id (row_of c.args.self.now.names.now c.args.row.now) (table_rows c.args.self.now) _ _ _ (to_z-of_z w32 _ fits) c.field_by_id.ensures c.is_none.ensures c.if-is_none.false
