-- Only ids differ.
use Rattle.std.proofs.Common.{w32, SFits, rules}
use Rattle.std.proofs.lemmas.Int.{to_z-of_z}
use Rattle.drafts.specs.Drafts.{paper}
use Rattle.drafts.proofs.Closings.{fit_if_closed}
use Rattle.drafts.proofs.builder.PartitionSpecBuilder.build.Goals as goal

pub returns-clause-fit : goal.returns-clause-fit
returns-clause-fit c =
    let id : SFits w32 c.args.self.spec_id = search rules in
    let start : SFits w32 c.args.self.last_assigned_field_id = search rules in
    fit_if_closed (paper c.args.self) c.args.spec.now c.close.new.self c.close.result (simp to_z-of_z at c.close.ensures.answer)
