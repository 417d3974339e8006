use Rattle.std.proofs.Common.{rules, tests, not, eqb, length, min, refl}
use Rattle.std.proofs.lemmas.Iterator.{IsFirst-from_position, YieldsList-from_slice, YieldsList-from_zip}
use Rattle.comparing.proofs.Places.{Same, Other, first}
use Rattle.comparing.proofs.first_difference.Goals as goal

pub returns : goal.returns
returns c =
    let fs = c.args.fields.now in
    let gs = c.args.others.now in
    first fs gs c.position.result c.or_else.result (not (eqb (length fs) (length gs))) (min (length fs) (length gs))
    (IsFirst-from_position c.position.new.self _ c.position.result Other Same c.position.ensures.ran (YieldsList-from_zip (YieldsList-from_slice fs cc) (YieldsList-from_slice gs cc)) (λ x q k. search (rules, tests)) (λ x q k. search (rules, tests)))
    (search (rules, tests)) refl refl
