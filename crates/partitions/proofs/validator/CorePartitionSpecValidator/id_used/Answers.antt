-- A search for the first field with the id tells whether there is one.
use Rattle.std.proofs.Common.{w32, SFits}
use Rattle.std.proofs.lemmas.Int.{to_z-of_z}
use Rattle.partitions.specs.Fields.{HasId}
use Rattle.partitions.proofs.Finding.{told_by_first}
use Rattle.partitions.proofs.validator.CorePartitionSpecValidator.id_used.Goals as goal

pub returns : goal.returns
returns g c =
    let fits : SFits w32 c.args.field_id = c.ranges.field_id in
    told_by_first (HasId c.args.field_id) (g.Self.CorePartitionSpecValidator.held c.args.self.now) c.first.result c.is_some.result c.is_some.ensures (simp to_z-of_z at c.first.ensures)
