-- The entries and the trailer are the record of the plan.
use Rattle.std.proofs.Common.{refl, arith}
use Rattle.records.proofs.Records.{wrote, record_of, same_record}
use Rattle.records.proofs.Unique.{length_record}
use Rattle.records.proofs.write.write.Goals as goal

pub returns-then-out-distance : goal.returns-then-out-distance
returns-then-out-distance g c =
    let size = length_record (g.R.Recorded.plan c.args.plan.now) in
    let len = c.body_len-distance.ensures.len in
    record { written = (refl, omega (arith, c.if-out-distance.true), refl {a = c.args.out.now}); of_plan = tt; same = same_record }

pub returns : goal.returns
returns g c =
    let w = wrote (g.R.Recorded.plan c.args.plan.now) c.args.out.now c.put_entries-at.new.out c.put.new.out c.trailer_of.result c.put_entries-at.result c.body_len-distance.result c.put.result
    c.put_entries-at.ensures.len c.put_entries-at.ensures.after c.trailer_of.ensures.bytes c.body_len-distance.ensures.len c.if-out-distance.false c.put.ensures.end c.put.ensures.after in
    record {
      written = (w.len, w.fits, w.is);
      of_plan = record_of (g.R.Recorded.plan c.args.plan.now) c.args.out.now c.put.new.out c.put.result w
          (record { id = c.trailer_of.ensures.fits; each = c.body_len-distance.ensures.each; buildable = c.body_len-distance.ensures.buildable });
      same = same_record;
    }
