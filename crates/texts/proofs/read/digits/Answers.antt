-- Each turn is at the first place that may be wrong.
use Rattle.std.proofs.Common.{◌≡◌, ◌+◌, ◌*◌, ◌<◌, get_or, Err, rules}
use Rattle.std.specs.Char.{digit_value}
use Rattle.texts.specs.declared.fault.TextFault.TheVariants.{WidthOverflow}
use Rattle.texts.proofs.Numbers.{overflow_at, digit_more}
use Rattle.texts.proofs.read.digits.Goals as goal

pub returns-in_err-n : goal.returns-in_err-n
returns-in_err-n c =
    let e : c.from_residual-in_err-n.result ≡ Err WidthOverflow = search rules in
    rw e (overflow_at c.args.text.now c.loop-b.b-index c.loop-b.n c.loop-b-test.true c.loop-b.invariant (search rules) (search rules))

pub loop-b-preserved : goal.loop-b-preserved
loop-b-preserved c =
    let d : digit_value (get_or c.args.text.now c.loop-b.b-index 0) < 10 = search rules in
    let e : c.in_ok-n.n ≡ c.loop-b.n * 10 + digit_value (get_or c.args.text.now c.loop-b.b-index 0) = search rules in
    rw e (digit_more c.args.text.now c.loop-b.b-index c.loop-b.n c.loop-b-test.true c.loop-b.invariant d (search rules))
