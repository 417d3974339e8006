-- The first field without a type decides.
use Rattle.std.proofs.Common.{◌≡◌, ◌<◌, length, arith}
use Rattle.std.proofs.lemmas.List.{length-map}
use Rattle.std.proofs.lemmas.Result.{err_from_is_err_and}
use Rattle.closed.specs.Opened.{opened, openeds}
use Rattle.closed.specs.TypeFaults.{told}
use Rattle.closed.specs.Typing.{KeptBefore, each_rules}
use Rattle.closed.proofs.Asked.{opened_at}
use Rattle.closed.proofs.Typings.{kept_more, broken_here, refused_by}
use Rattle.closed.proofs.spec.types.check_types.Goals as goal

pub returns-in_err-type_of : goal.returns-in_err-type_of
returns-in_err-type_of g c =
    let columns = g.S.Schema.columns c.args.schema.now in
    let fs = c.args.fields.now in
    let i = c.loop-field.field-index in
    let f = c.field-item.result in
    let size = length-map fs opened in
    let inside : i < length (openeds fs) = omega arith in
    let fault = c.in_err-type_of.field-0.0 in
    let p = err_from_is_err_and {Q = λ e. e ≡ c.in_err-type_of.field-0.0} c.from_residual.result c.from_residual.ensures.1 in
    let b = broken_here columns (openeds fs) i (opened f) inside (opened_at fs i f c.loop-field-test.true c.field-item.is) (told fault) c.loop-field.invariant c.in_err-type_of.ensures in
    refused_by (KeptBefore columns (openeds fs) (length fs)) (each_rules columns (openeds fs)) c.from_residual.result p.0 fault p.1 p.2 b

pub loop-field-preserved : goal.loop-field-preserved
loop-field-preserved g c =
    let fs = c.args.fields.now in
    let i = c.loop-field.field-index in
    let f = c.field-item.result in
    let size = length-map fs opened in
    let inside : i < length (openeds fs) = omega arith in
    kept_more (g.S.Schema.columns c.args.schema.now) (openeds fs) i (opened f) inside (opened_at fs i f c.loop-field-test.true c.field-item.is) c.in_ok-type_of.field-0 c.in_ok-type_of.ensures c.loop-field.invariant
