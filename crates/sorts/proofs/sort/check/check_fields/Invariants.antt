-- What answers for the fields that are left answers for all.
use Rattle.std.proofs.Common.{Result, drop}
use Rattle.sorts.specs.declared.sort.SortFault.{SortFault}
use Rattle.sorts.specs.SortRules.{each_field_rules, Answers}
use Rattle.sorts.proofs.sort.check.check_fields.Given as goal

abbrev pub invariant-loop-field : goal.invariant-loop-field
invariant-loop-field g l =
    let c = g.S.Schema.columns l.schema in
    (r : Result (Unit {0}) SortFault) → Answers (each_field_rules c (drop l.field-index l.fields)) r → Answers (each_field_rules c l.fields) r
