use Rattle.std.proofs.Common.{map}
use Rattle.numbering.proofs.Steps.{Turned}
use Rattle.numbering.proofs.numbers.number.Given as goal

abbrev pub invariant-loop-index : goal.invariant-loop-index
invariant-loop-index g l = Turned l.start (map g.T.Identified.id l.fields) l.initial.ids l.ids l.index l.last
