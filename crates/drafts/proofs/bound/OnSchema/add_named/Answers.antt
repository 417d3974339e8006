-- A name that leads to a column makes a bound add.
use Rattle.std.proofs.Common.{◌≡◌, Some, None, sym, ap, ◌∙◌, w32, SFits, rules}
use Rattle.std.proofs.lemmas.Int.{to_z-of_z}
use Rattle.std.specs.Option.{option_map}
use Rattle.schemas.specs.Columns.{id_of}
use Rattle.partitions.specs.Fields.{field_of}
use Rattle.partitions.specs.Listed.{listed}
use Rattle.drafts.specs.BoundAdds.{AddsBound, on_named}
use Rattle.drafts.proofs.Bounding.{named_add}
use Rattle.drafts.proofs.bound.OnSchema.add_named.Goals as goal

pub returns : goal.returns
returns g c =
    let columns = g.S.Schema.columns c.args.self.now.schema.now in
    let source = c.in_ok-source.source in
    let fits : SFits w32 source.id = search rules in
    let found : c.field_by_name.result ≡ Some source = search rules in
    let is : on_named columns c.args.source_name.now c.args.name.now c.args.transform ≡ Some (field_of source.id None c.args.name.now c.args.transform)
    = ap (option_map (λ id. field_of id None c.args.name.now c.args.transform)) (sym c.field_by_name.ensures.leads ∙ ap (option_map id_of) found) in
    let a : AddsBound columns (listed c.args.fields.now) (field_of source.id None c.args.name.now c.args.transform) c.add_to.result (listed c.add_to.new.fields)
    = simp to_z-of_z at c.add_to.ensures in
    named_add columns (listed c.args.fields.now) _ _ is c.add_to.result (listed c.add_to.new.fields) a
