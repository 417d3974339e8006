-- Each turn adds one field.
use Rattle.std.proofs.Common.{◌∙◌, subst, arith}
use Rattle.std.proofs.lemmas.List.{length-map}
use Rattle.partitions.specs.Adds.{Adds}
use Rattle.partitions.specs.Fields.{PaperField}
use Rattle.partitions.specs.Specs.{paper_spec}
use Rattle.closed.specs.Opened.{opened, openeds}
use Rattle.closed.proofs.Asked.{opened_at}
use Rattle.closed.proofs.Opens.{added_next}
use Rattle.closed.proofs.spec.PartitionSpec.to_unbound.Goals as goal

pub loop-field-preserved : goal.loop-field-preserved
loop-field-preserved c =
    let f = c.field-item.result in
    let fs = c.fields-fields.result.now in
    let i = c.loop-field.field-index in
    let size = length-map fs opened in
    let before = (paper_spec c.loop-field.unbound).fields in
    let after = (paper_spec c.add_partition_field.new.self).fields in
    let adds = subst (λ (g : PaperField). Adds before g c.add_partition_field.result after) (c.view.ensures ∙ c.from.ensures) c.add_partition_field.ensures.fields in (
      c.add_partition_field.ensures.spec_id ∙ c.loop-field.invariant.0,
      added_next (openeds fs) i (opened f) (omega arith) c.fields-fields.ensures.buildable (opened_at fs i f c.loop-field-test.true c.field-item.is) c.add_partition_field.result before after c.loop-field.invariant.1 adds,
    )
