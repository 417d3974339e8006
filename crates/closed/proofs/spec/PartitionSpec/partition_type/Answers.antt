-- Room first, then each field; only then is anything written.
use Rattle.closed.specs.Closed.{paper_closed}
use Rattle.closed.proofs.Typings.{types_all}
use Rattle.closed.proofs.spec.PartitionSpec.partition_type.Goals as goal

pub returns : goal.returns
returns g c =
    types_all (g.S.Schema.columns c.args.schema.now) c.fields-fields.result.now (paper_closed c.args.self.now).fields c.fields-fields.ensures.same c.args.into.now c.if-into-fields.false c.write_types.new.into
    c.in_ok-check_types.ensures c.write_types.ensures
