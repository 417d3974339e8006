-- A field that differs decides; else none does.
use Rattle.std.proofs.Common.{◌≡◌, rules, tests}
use Rattle.std.proofs.lemmas.Bool.Decides.{Decides-like}
use Rattle.std.proofs.lemmas.Iterator.{cases_from_all, YieldsList-from_slice, YieldsList-from_zip}
use Rattle.closed.specs.Closed.{paper_closed}
use Rattle.closed.specs.declared.field.PartitionField.{PartitionField}
use Rattle.closed.proofs.Asked.{rest, compatible_rests, rests_compatible}
use Rattle.partitions.proofs.Viewed.{pairs_decided}
use Rattle.closed.proofs.spec.PartitionSpec.is_compatible_with.Goals as goal

pub returns-then-fields-others : goal.returns-then-fields-others
returns-then-fields-others c =
    let xs = c.fields-fields.result.now in
    let ys = c.fields-others.result.now in
    let gs = (paper_closed c.args.self.now).fields in
    let hs = (paper_closed c.args.other.now).fields in
    Decides-like c.all.result (rests_compatible xs ys gs hs c.fields-fields.ensures.same c.fields-others.ensures.same)
    (compatible_rests xs ys gs hs c.fields-fields.ensures.same c.fields-others.ensures.same)
    (pairs_decided rest xs ys c.all.result c.if-fields-others.true
    (cases_from_all c.all.new.self _ c.all.result (λ (p : PartitionField × PartitionField). rest p.0 ≡ rest p.1) (λ p. rest p.0 ≡ rest p.1 → ⊥) c.all.ensures.ran (YieldsList-from_zip (YieldsList-from_slice xs cc) (YieldsList-from_slice ys cc))
    (λ x q k. search (rules, tests)) (λ x q k. search (rules, tests))))
