-- A search that found nothing keeps its rule.
use Rattle.std.proofs.Common.{w32, SFits, rules}
use Rattle.std.proofs.lemmas.Int.{to_z-of_z}
use Rattle.partitions.specs.Views.{seen}
use Rattle.partitions.proofs.Judging.{alike_first, neither_used}
use Rattle.partitions.proofs.validator.CorePartitionSpecValidator.check_used.Goals as goal

pub returns-in-Some-alike_used : goal.returns-in-Some-alike_used
returns-in-Some-alike_used g c =
    let fits : SFits w32 c.args.field.now.source_id = search rules in
    alike_first (g.Self.CorePartitionSpecValidator.held c.args.self.now) (seen c.args.field.now) c.in-Some-alike_used.index c.in_default.ensures (simp to_z-of_z at c.in-Some-alike_used.ensures)

pub returns : goal.returns
returns g c =
    let fits : SFits w32 c.args.field.now.source_id = search rules in
    neither_used (g.Self.CorePartitionSpecValidator.held c.args.self.now) (seen c.args.field.now) c.in_default.ensures (simp to_z-of_z at c.in_default-alike_used.ensures)
