-- Each turn writes one field.
use Rattle.std.proofs.Common.{◌≡◌, ◌+◌, ◌<◌, length, set, sym, refl, subst, arith, w32, SFits, rules}
use Rattle.std.proofs.lemmas.List.{length-map}
use Rattle.std.proofs.lemmas.Int.{to_z-of_z}
use Rattle.faults.specs.Rules.{AllKept}
use Rattle.partitions.specs.Fields.{PaperField}
use Rattle.faults.proofs.Firsts.{not_both}
use Rattle.closed.specs.Opened.{opened, openeds}
use Rattle.closed.specs.TypeFaults.{told}
use Rattle.closed.specs.Typing.{Typed, field_rules}
use Rattle.closed.specs.declared.types.TypeField.{TypeField}
use Rattle.closed.proofs.Asked.{opened_at}
use Rattle.closed.proofs.Typings.{typed_more}
use Rattle.closed.proofs.spec.types.write_types.Goals as goal
use Rattle.closed.proofs.spec.types.write_types.Goals.{in-Ok, in_default}

pub loop-place-preserved : goal.loop-place-preserved
loop-place-preserved g c =
    let columns = g.S.Schema.columns c.args.schema.now in
    let fs = c.args.fields.now in
    let i = c.loop-place.place in
    let f = c.index-fields-place.result in
    let size = length-map fs opened in
    let inside : i < length (openeds fs) = omega arith in
    let room : i < length c.loop-place.into = omega arith in
    let at = opened_at fs i f c.loop-place-test.true c.index-fields-place.is in
    elim c.match-type_of.branch [
      | in-Ok w ↦
          let id : SFits w32 f.field_id = search rules in
          let x : TypeField = record { field_id = f.field_id; result_type = w.in-Ok.result_type; place = i } in
          let is : c.match-type_of.into ≡ set c.loop-place.into i x = simp to_z-of_z at w.into-is in
          subst (Typed columns (openeds fs) (i + 1) c.args.into.now) (sym is)
          (typed_more columns (openeds fs) i (opened f) inside at c.args.into.now c.loop-place.into x room (record { id = refl; result = w.in-Ok.ensures; ordinal = refl }) c.loop-place.invariant)
      | in_default w ↦
          let kept : AllKept (field_rules columns (opened f)) = subst (λ (p : PaperField). AllKept (field_rules columns p)) (sym at) (c.requires.kept i (opened f) c.loop-place-test.true) in
          absurd (not_both (told w.in_default.field-0) (field_rules columns (opened f)) kept w.in_default.ensures)
    ]
