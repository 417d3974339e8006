use Rattle.std.proofs.Common.{rules, tests, ◌≡◌}
use Rattle.std.specs.List.{find}
use Rattle.std.specs.Option.{option_map}
use Rattle.std.proofs.lemmas.Iterator.Search.{find_from_yields_List}
use Rattle.schemas.proofs.Firsts.{mapped}
use Rattle.sheets.specs.Decoded.{rows_of}
use Rattle.sheets.specs.Standing.{row_read}
use Rattle.sheets.proofs.Walks.{by_id, rows_yield, steps}
use Rattle.sheets.proofs.sheet.lookup.ColumnSheetSchema.field_by_id.Goals as goal

pub returns : goal.returns
returns c =
    let l = by_id c.args.id in
    let all = rows_of c.args.self.now.bytes.now in
    let e : option_map row_read c.find.result ≡ find l.test all =
    find_from_yields_List {steps = steps} {s = c.rows.result} l.test c.find.new.self _ c.find.result c.find.ensures.ran (rows_yield all c.rows.result c.rows.ensures) (λ x b q k. search (rules, tests)) in
    mapped l row_read all c.find.result c.map.result e (search rules)
