-- Each turn adds one entry; a refusal puts the fields back.
use Rattle.partitions.specs.Listed.{listed}
use Rattle.partitions.proofs.Batching.{next_added, put_back}
use Rattle.partitions.proofs.fields.FieldList.add_all.Goals as goal

pub returns-in-Err : goal.returns-in-Err
returns-in-Err g c =
    put_back (g.A.Adding.rules c.args.adding.now) (listed c.args.self.now) c.args.batch.now.area.now c.args.batch.now.fields.now c.loop-index.index (listed c.loop-index.self) c.loop-index.invariant c.loop-index-test.true
    c.in-Err.cause (listed c.add_entry.new.self) (listed c.truncate.new.self) c.field_count-count.result c.in-Err.ensures c.field_count-count.ensures c.truncate.ensures

pub loop-index-preserved : goal.loop-index-preserved
loop-index-preserved g c =
    next_added (g.A.Adding.rules c.args.adding.now) (listed c.args.self.now) c.args.batch.now.area.now c.args.batch.now.fields.now c.loop-index.index (listed c.loop-index.self) c.loop-index.invariant c.loop-index-test.true
    (listed c.add_entry.new.self) c.in_default.ensures
