-- The lengths of the parts, of which the name's and the text's are bounded.
use Rattle.std.proofs.Common.{length, ap, arith}
use Rattle.partitions.specs.Views.{paper_field}
use Rattle.records.specs.Format.{entry_of}
use Rattle.records.proofs.Unique.{length_entry}
use Rattle.records.proofs.entry.entry_len.Goals as goal

pub returns : goal.returns
returns c =
    let name = ap length c.as_bytes.ensures.same in
    let text = c.print_in-text_len.ensures.len in
    record {
      len = omega (arith, length_entry (entry_of (paper_field c.args.field.now)));
      short = omega (arith, c.as_bytes.ensures.good.short, c.print_in-text_len.ensures.short);
      fits = record { source = c.head.ensures.source; id = c.head.ensures.id; width = c.print_in-text_len.ensures.width };
    }
