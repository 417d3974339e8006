-- No print is longer than the room.
use Rattle.std.proofs.Common.{arith}
use Rattle.texts.proofs.Back.{short}
use Rattle.transforms.specs.Printed.{printed}
use Rattle.records.proofs.Puts.{printed_in}
use Rattle.records.proofs.entry.print_in.Goals as goal

pub returns : goal.returns
returns c =
    let width = c.print.ensures.read_back.1.0 in
    let few = short c.args.transform width in
    let text = printed_in (printed c.args.transform) c.args.room.now c.print.new.out c.print.result c.unwrap_or.result c.print.ensures.wrote (omega arith) c.unwrap_or.ensures in
    record { text = text.1; len = text.0; short = omega (arith, text.0); width = width }
