use Rattle.std.proofs.Common.{◌≡◌, get_or, drop, sym, ap, w32, SFits, of_z, rules}
use Rattle.std.proofs.lemmas.Int.{to_z-of_z}
use Rattle.schemas.specs.Rows.{column_in}
use Rattle.schemas.specs.TableRows.{rows_of}
use Rattle.schemas.proofs.Firsts.{first_here, first_past, first_none}
use Rattle.schemas.proofs.Found.{column_by_record, blank}
use Rattle.schemas.proofs.Identity.{from_bits, same_true, same_false}
use Rattle.schemas.proofs.table.lookup.ColumnTableSchema.field_by_id.Goals as goal

pub returns-then-row-id : goal.returns-then-row-id
returns-then-row-id c =
    let rs = c.args.self.now.records.now in
    let area = c.args.self.now.names.now in
    let i = c.loop-row.row-index in
    let id = c.args.id in
    let fx : SFits w32 (get_or rs i blank).id = search rules in
    let fi : SFits w32 id = c.ranges.id in
    let left : column_in (rows_of (drop i rs) area) id ≡ column_in (rows_of rs area) id = simp to_z-of_z at c.loop-row.invariant in
    first_here (column_by_record area id) rs i left blank c.loop-row-test.true (sym (same_true (get_or rs i blank).id id (from_bits _ _ fx fi c.if-row-id.true)))

pub loop-row-preserved : goal.loop-row-preserved
loop-row-preserved c =
    let rs = c.args.self.now.records.now in
    let area = c.args.self.now.names.now in
    let i = c.loop-row.row-index in
    let id = c.args.id in
    let fi : SFits w32 id = c.ranges.id in
    let left : column_in (rows_of (drop i rs) area) id ≡ column_in (rows_of rs area) id = simp to_z-of_z at c.loop-row.invariant in
    simp to_z-of_z (first_past (column_by_record area id) rs i left blank c.loop-row-test.true (sym (same_false (get_or rs i blank).id id (λ e. c.if-row-id.false (ap (of_z w32) e)))))

pub returns : goal.returns
returns c =
    let rs = c.args.self.now.records.now in
    let area = c.args.self.now.names.now in
    let i = c.loop-row.row-index in
    let id = c.args.id in
    let fi : SFits w32 id = c.ranges.id in
    let left : column_in (rows_of (drop i rs) area) id ≡ column_in (rows_of rs area) id = simp to_z-of_z at c.loop-row.invariant in
    first_none (column_by_record area id) rs i left c.loop-row-test.false
