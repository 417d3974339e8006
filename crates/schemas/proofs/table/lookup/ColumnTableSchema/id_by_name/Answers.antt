use Rattle.std.proofs.Common.{rules, tests, ◌≡◌}
use Rattle.std.specs.List.{find}
use Rattle.std.specs.Option.{option_map}
use Rattle.std.proofs.lemmas.Iterator.{YieldsList-from_slice}
use Rattle.std.proofs.lemmas.Iterator.Search.{find_from_yields_List}
use Rattle.schemas.proofs.Firsts.{mapped}
use Rattle.schemas.proofs.Found.{id_by_record}
use Rattle.schemas.proofs.table.lookup.ColumnTableSchema.id_by_name.Goals as goal

pub returns : goal.returns
returns c =
    let l = id_by_record c.args.self.now.names.now c.args.name.now in
    let rs = c.args.self.now.records.now in
    let e : option_map (λ r. r.now) c.find.result ≡ find l.test rs =
    find_from_yields_List l.test _ _ c.find.result c.find.ensures.ran (YieldsList-from_slice rs cc) (λ x b q k. search (rules, tests)) in
    mapped l (λ r. r.now) rs c.find.result c.map.result e (search rules)
