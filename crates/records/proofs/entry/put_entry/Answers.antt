-- The head, the name, the text's length and the text, put one after another.
use Rattle.std.proofs.Common.{length, ap, arith}
use Rattle.partitions.specs.Views.{paper_field}
use Rattle.records.specs.Format.{entry_bytes, entry_of}
use Rattle.records.proofs.Puts.{cut_is, front_first, front_more, front_all, parts_same}
use Rattle.records.proofs.Unique.{length_entry}
use Rattle.records.proofs.entry.put_entry.Goals as goal

pub put-name_start-requires : goal.put-name_start-requires
put-name_start-requires c = omega (arith, length_entry (entry_of (paper_field c.args.field.now)))

pub put-name_end-requires : goal.put-name_end-requires
put-name_end-requires c = omega (arith, length_entry (entry_of (paper_field c.args.field.now)), ap length c.as_bytes.ensures.same)

pub put-text_start-requires : goal.put-text_start-requires
put-text_start-requires c = omega (arith, length_entry (entry_of (paper_field c.args.field.now)), ap length c.as_bytes.ensures.same)

pub put-requires : goal.put-requires
put-requires c =
    let text = cut_is c.print_in-text_len.result c.print_in-text_len.new.room _ c.print_in-text_len.ensures.text in
    omega (arith, length_entry (entry_of (paper_field c.args.field.now)), ap length c.as_bytes.ensures.same, ap length text)

pub returns : goal.returns
returns c =
    let a = front_first _ _ _ _ c.put-name_start.ensures.after c.put-name_start.ensures.end in
    let b = front_more _ _ _ _ _ _ _ a c.put-name_end.ensures.after c.put-name_end.ensures.end in
    let d = front_more _ _ _ _ _ _ _ b c.put-text_start.ensures.after c.put-text_start.ensures.end in
    let e = front_more _ _ _ _ _ _ _ d c.put.ensures.after c.put.ensures.end in
    let text = cut_is c.print_in-text_len.result c.print_in-text_len.new.room _ c.print_in-text_len.ensures.text in
    let same = parts_same (entry_of (paper_field c.args.field.now)) _ _ _ _ c.head.ensures.bytes c.as_bytes.ensures.same c.print_in-text_len.ensures.len text in
    let all = front_all _ (entry_bytes (entry_of (paper_field c.args.field.now))) _ _ _ same e in
    record { len = all.0; after = all.1 }
