-- The word, the digits and the bracket, put one after another.
use Rattle.std.proofs.Common.{◌≡◌, length, decimal, ap, ◌∙◌, arith, length-append}
use Rattle.texts.proofs.Shown.{copied}
use Rattle.texts.proofs.print.put_width.Goals as goal

pub returns : goal.returns
returns c =
    let digits : c.as_bytes-digits.result.now ≡ decimal c.args.n = c.as_bytes-digits.ensures.value ∙ c.format.ensures.text in
    let long : length c.as_bytes-digits.result.now ≡ length (decimal c.args.n) = ap length digits in (
      simp length-append (omega arith),
      omega arith,
      copied _ _ _ _ _ _ c.copy_from_slice.ensures.after c.copy_from_slice-2.ensures.after digits c.if-out-end.false,
    )
