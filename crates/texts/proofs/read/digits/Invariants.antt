-- What the digits so far spell.
use Rattle.std.proofs.Common.{take}
use Rattle.texts.specs.Width.{Number}
use Rattle.texts.proofs.read.digits.Given as goal

abbrev pub invariant-loop-b : goal.invariant-loop-b
invariant-loop-b l = Number (take l.b-index l.text) l.n
