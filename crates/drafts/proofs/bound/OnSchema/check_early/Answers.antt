-- The checks in their order give the first broken rule, or that all are kept.
use Rattle.std.proofs.lemmas.Result.{err_from_is_err_and}
use Rattle.partitions.specs.DraftFaults.{told}
use Rattle.partitions.specs.Listed.{listed}
use Rattle.partitions.specs.Views.{seen}
use Rattle.partitions.proofs.Adding.{refused}
use Rattle.drafts.specs.SourceRules.{early_rules}
use Rattle.drafts.proofs.Bounding.{used_first, source_last}
use Rattle.drafts.proofs.bound.OnSchema.check_early.Goals as goal

pub returns-in_err-check_used : goal.returns-in_err-check_used
returns-in_err-check_used g c =
    let columns = g.S.Schema.columns c.args.self.now.schema.now in
    let fs = listed c.args.fields.now in
    let f = seen c.args.field.now in
    let fault = c.in_err-check_used.field-0.0 in
    let p = err_from_is_err_and c.from_residual-in_err-check_used.result c.from_residual-in_err-check_used.ensures.1 in
    refused (early_rules columns fs f) c.from_residual-in_err-check_used.result p.0 fault p.1 p.2 (used_first columns fs f c.in_ok-check_name.ensures (told fault) c.in_err-check_used.ensures)

pub returns : goal.returns
returns g c =
    source_last (g.S.Schema.columns c.args.self.now.schema.now) (listed c.args.fields.now) (seen c.args.field.now) c.in_ok-check_name.ensures c.in_ok-check_used.ensures c.check_source.result c.check_source.ensures
