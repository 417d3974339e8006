-- What is put at a place that is there.
use Rattle.records.proofs.Puts.{put_laid}
use Rattle.records.proofs.entry.put.Goals as goal

pub returns : goal.returns
returns c =
    let p = put_laid c.args.bytes.now c.args.out.now c.put_at.new.out c.args.at c.unwrap.result c.put_at.result c.put_at.ensures c.unwrap.ensures in
    record { end = p.0; after = p.1 }
