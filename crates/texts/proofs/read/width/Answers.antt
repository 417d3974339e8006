-- What follows a plus is read as the digits are.
use Rattle.std.proofs.Common.{drop, subst, arith, length-drop, ltb-false, ltb-true}
use Rattle.std.proofs.lemmas.List.{take_rest}
use Rattle.std.proofs.lemmas.Str.Parse.{without_leading_plus_plus}
use Rattle.texts.specs.Steps.{DigitsReading}
use Rattle.texts.proofs.Numbers.{read_after_plus, width_so}
use Rattle.texts.proofs.read.width.Goals as goal

pub returns-in-43-2 : goal.returns-in-43-2
returns-in-43-2 c =
    let bare = c.before_close-bare.result.now in
    width_so c.digits.result c.past_open.ensures c.before_close-bare.ensures
    (read_after_plus bare (drop 1 bare) (without_leading_plus_plus bare (omega arith)) (omega (arith, ltb-true, ltb-false, length-drop 1 bare))
    c.digits.result (subst (λ l. DigitsReading l c.digits.result) (take_rest bare 1) c.digits.ensures))
