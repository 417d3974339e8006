-- With a field that breaks no rule the fields are still apart.
use Rattle.std.proofs.Common.{w32, SFits, rules}
use Rattle.std.proofs.lemmas.Int.{to_z-of_z}
use Rattle.partitions.specs.declared.field.UnboundPartitionField.{UnboundPartitionField}
use Rattle.partitions.proofs.Kept.{buildable_pushed, few_of}
use Rattle.partitions.proofs.fields.FieldList.add.Goals as goal

pub invariant_of-self : goal.invariant_of-self
invariant_of-self c =
    let fits : SFits w32 c.args.field.now.source_id = search rules in
    let x : UnboundPartitionField = record { source_id = c.args.field.now.source_id; field_id = c.args.field.now.field_id; name = c.in_ok-name.name; transform = c.args.field.now.transform } in
    let b = buildable_pushed c.args.self.now c.push.new.self x c.args.field.now.name.now c.push.result (simp to_z-of_z at c.push.ensures) c.in_ok-name.ensures.name c.in_ok-name.ensures.rules in
    record { few = few_of c.push.new.self b.few; names = b.names; sources = b.sources; ids = b.ids }
