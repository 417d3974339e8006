use Rattle.std.proofs.Common.{map, w32, SFits, rules}
use Rattle.numbering.proofs.Hunts.{found}
use Rattle.numbering.proofs.numbers.next_free.Goals as goal

pub returns : goal.returns
returns g c =
    let draft = map g.T.Identified.id c.args.fields.now in
    let fits : SFits w32 c.args.last = c.ranges.last in
    found draft c.args.last _ _ _ _ _ c.find.ensures.ran c.new.ensures.end c.new.ensures.exhausted (search rules) (λ x q k. search rules) (λ x q k. search rules)
