-- What was dropped are closing brackets.
use Rattle.std.proofs.Common.{◌≡◌, ℕ, ◌++◌, length, replicate}
use Rattle.texts.proofs.read.before_close.Given as goal

abbrev pub invariant-loop-before : goal.invariant-loop-before
invariant-loop-before l = (k : ℕ) × (l.text ≡ l.rest ++ replicate k 93)

abbrev pub decreases-loop-before : goal.decreases-loop-before
decreases-loop-before l = length l.rest
