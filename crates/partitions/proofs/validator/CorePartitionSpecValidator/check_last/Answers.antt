-- An id that is not stated, or that the search did not find, keeps its rule.
use Rattle.std.proofs.Common.{arith, w32, SFits, rules}
use Rattle.std.proofs.lemmas.Int.{to_z-of_z}
use Rattle.partitions.specs.Views.{seen}
use Rattle.partitions.proofs.Judging.{unstated, free, full_first, last_kept}
use Rattle.partitions.proofs.validator.CorePartitionSpecValidator.check_last.Goals as goal
use Rattle.partitions.proofs.validator.CorePartitionSpecValidator.check_last.Goals.{in-Some+else-id_used, in_default}

pub returns-then-field_count-ge-MAX_FIELDS : goal.returns-then-field_count-ge-MAX_FIELDS
returns-then-field_count-ge-MAX_FIELDS g c =
    let held = g.Self.CorePartitionSpecValidator.held c.args.self.now in
    let field = seen c.args.field.now in
    full_first held field (omega arith)
    (elim c.match-field.branch [
      | in-Some+else-id_used w ↦ let fits : SFits w32 w.in-Some.field_id = search rules in free held field w.in-Some.field_id w.in-Some.is (simp to_z-of_z at w.if-id_used.ensures)
      | in_default w ↦ unstated held field w.in_default.is
    ])

pub returns : goal.returns
returns g c =
    let held = g.Self.CorePartitionSpecValidator.held c.args.self.now in
    let field = seen c.args.field.now in
    last_kept held field (omega arith)
    (elim c.match-field.branch [
      | in-Some+else-id_used w ↦ let fits : SFits w32 w.in-Some.field_id = search rules in free held field w.in-Some.field_id w.in-Some.is (simp to_z-of_z at w.if-id_used.ensures)
      | in_default w ↦ unstated held field w.in_default.is
    ])
