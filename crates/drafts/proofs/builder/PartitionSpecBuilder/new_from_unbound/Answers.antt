-- The spec's fields keep the rules among themselves; the check says what the columns admit.
use Rattle.std.proofs.Common.{pos, refl, w32, SFits, to_z, of_z, rules}
use Rattle.std.proofs.lemmas.Result.{err_from_is_err_and}
use Rattle.std.proofs.lemmas.Int.{to_z-of_z}
use Rattle.partitions.specs.Listed.{listed}
use Rattle.partitions.specs.Specs.{paper_spec}
use Rattle.partitions.specs.Views.{papers}
use Rattle.drafts.specs.declared.builder.PartitionSpecBuilder.{PartitionSpecBuilder}
use Rattle.drafts.proofs.Taken.{taken_over, refused_by}
use Rattle.drafts.proofs.builder.PartitionSpecBuilder.new_from_unbound.Goals as goal

pub returns-in_err-check_all : goal.returns-in_err-check_all
returns-in_err-check_all g c =
    let p = err_from_is_err_and c.from_residual.result c.from_residual.ensures.1 in
    refused_by (g.S.Schema.columns c.args.schema.now) (paper_spec c.args.unbound) c.into_parts-spec_id.result.0 (listed c.into_parts-spec_id.result.1) (papers c.as_slice.result.now)
    c.into_parts-spec_id.ensures c.as_slice.ensures.same c.as_slice.ensures.buildable c.from_residual.result p.0 c.in_err-check_all.field-0.0 p.1 p.2 c.in_err-check_all.ensures

pub returns : goal.returns
returns g c =
    let fits : SFits w32 c.unwrap_or.result = search rules in
    let d : PartitionSpecBuilder = record { spec_id = to_z w32 (of_z w32 c.unwrap_or.result); last_assigned_field_id = pos 999; fields = c.into_parts-spec_id.result.1 } in
    taken_over (g.S.Schema.columns c.args.schema.now) (paper_spec c.args.unbound) c.into_parts-spec_id.result.0 (listed c.into_parts-spec_id.result.1) (papers c.as_slice.result.now)
    c.into_parts-spec_id.ensures c.as_slice.ensures.same c.as_slice.ensures.buildable d (to_z w32 (of_z w32 c.unwrap_or.result)) c.unwrap_or.result refl (to_z-of_z w32 c.unwrap_or.result fits) c.unwrap_or.ensures
    c.in_ok-check_all.ensures
