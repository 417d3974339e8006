-- Refused as a batch, closed, or refused in closing.
use Rattle.std.proofs.Common.{◌≡◌, Err, Result, sym, refl, ap, ◌∙◌, subst}
use Rattle.std.proofs.lemmas.Result.{err_from_is_err_and}
use Rattle.schemas.specs.Columns.{Columns}
use Rattle.partitions.specs.Fields.{PaperSpec}
use Rattle.partitions.specs.Specs.{paper_spec}
use Rattle.partitions.proofs.Kept.{buildable_listed}
use Rattle.closed.specs.declared.spec.PartitionSpec.{PartitionSpec}
use Rattle.drafts.specs.Drafts.{paper}
use Rattle.binding.specs.declared.fault.BindFault.{BindFault}
use Rattle.binding.specs.declared.fault.BindFault.TheVariants.{Batch, Draft}
use Rattle.binding.proofs.Backs.{Promised, batch_refused, closed, not_closed}
use Rattle.binding.proofs.bind.bind.Goals as goal

-- what the exit of a `?` promises
exit : (c : Columns) (s : PaperSpec) (old new : PartitionSpec) (r : Result (Unit {0}) BindFault) (y fault : BindFault) → r ≡ Err y → y ≡ fault → Promised c s old new (Err fault) → Promised c s old new r
exit c s old new r y fault e q p = subst (λ (r : Result (Unit {0}) BindFault). Promised c s old new r) (sym (e ∙ ap Err q)) p

pub returns-in_err-draft : goal.returns-in_err-draft
returns-in_err-draft g c =
    let columns = g.S.Schema.columns c.args.schema.now in
    let s = paper_spec c.args.unbound in
    let fault = c.in_err-draft.field-0.0 in
    let p = err_from_is_err_and c.from_residual.result c.from_residual.ensures.1 in
    let w = exit columns s c.args.spec.now c.args.spec.now c.from_residual.result p.0 (Batch fault) p.1 p.2
    (batch_refused columns s (buildable_listed c.args.unbound.fields) c.args.spec.now c.args.spec.now fault c.in_err-draft.ensures.step refl) in
    record { answer = w.answer; back = w.back; read_back = w.read_back; fit = w.fit }

pub returns : goal.returns
returns g c =
    let w = closed (g.S.Schema.columns c.args.schema.now) (paper_spec c.args.unbound) (buildable_listed c.args.unbound.fields) c.args.spec.now c.build.new.spec
    (paper c.in_ok-draft.draft) c.in_ok-draft.ensures.fields c.in_ok-draft.ensures.step tt c.in_ok-build.ensures.closes c.in_ok-build.ensures.laws c.in_ok-build.ensures.fit in
    record { answer = w.answer; back = w.back; read_back = w.read_back; fit = w.fit }

pub returns-in_err-build : goal.returns-in_err-build
returns-in_err-build g c =
    let columns = g.S.Schema.columns c.args.schema.now in
    let s = paper_spec c.args.unbound in
    let fault = c.in_err-build.field-0.0 in
    let p = err_from_is_err_and c.from_residual-in_err-build.result c.from_residual-in_err-build.ensures.1 in
    let w = exit columns s c.args.spec.now c.build.new.spec c.from_residual-in_err-build.result p.0 (Draft fault) p.1 p.2
    (not_closed columns s (buildable_listed c.args.unbound.fields) c.args.spec.now c.build.new.spec
    (paper c.in_ok-draft.draft) c.in_ok-draft.ensures.fields c.in_ok-draft.ensures.step fault c.in_err-build.ensures.closes c.in_err-build.ensures.laws) in
    record { answer = w.answer; back = w.back; read_back = w.read_back; fit = w.fit }
