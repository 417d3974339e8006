-- A name leads to no id that has no column.
use Rattle.std.proofs.Common.{◌≡◌, true, is_some, None, sym, ap, ◌∙◌, w32, SFits, rules}
use Rattle.std.proofs.lemmas.Bool.{false≢true}
use Rattle.std.proofs.lemmas.Int.{to_z-of_z}
use Rattle.schemas.proofs.schema.Schema.field_by_name.Goals as goal

pub returns-in_err-column-clause-leads : goal.returns-in_err-column-clause-leads
returns-in_err-column-clause-leads g c =
    let s = c.args.self.now in
    let id = c.in_ok-id.id in
    let fits : SFits w32 id = search rules in
    let none : None ≡ (g.Self.Schema.columns s).by_id id = simp to_z-of_z at c.in_err-column.ensures in
    let some : is_some ((g.Self.Schema.columns s).by_id id) ≡ true = g.Self.Schema.sound s c.args.name.now id (sym c.in_ok-id.ensures) in
    absurd (false≢true (ap is_some none ∙ some))
