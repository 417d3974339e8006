-- The trailer has eight bytes.
use Rattle.std.proofs.Common.{◌+◌, sym, ap, ◌∙◌}
use Rattle.records.proofs.Unique.{length_record}
use Rattle.records.proofs.write.record_len.Goals as goal

pub returns : goal.returns
returns g c = ap (λ n. n + 8) c.body_len.ensures.len ∙ sym (length_record (g.R.Recorded.plan c.args.plan.now))
