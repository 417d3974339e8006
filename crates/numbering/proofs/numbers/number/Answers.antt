use Rattle.std.proofs.Common.{◌≡◌, ◌+◌, map, set, Ok, Err, None, Some, sym, subst, arith, w32, SFits, rules}
use Rattle.std.specs.Int.{int_max}
use Rattle.std.proofs.lemmas.Int.{to_z-of_z}
use Rattle.numbering.specs.OneField.{IsId, NoId}
use Rattle.numbering.specs.Outcome.{Wrote, Halted}
use Rattle.numbering.specs.declared.NumberFault.TheVariants.{NoNumber}
use Rattle.numbering.proofs.Steps.{Turned, turn_halts, turn_more, turn_all}
use Rattle.numbering.proofs.Outcomes.{lawful}
use Rattle.numbering.proofs.numbers.number.Goals as goal

pub returns-in_err-id : goal.returns-in_err-id
returns-in_err-id g c =
    let fs : SFits w32 c.args.start = c.ranges.start in
    let f = g.T.Identified.id in
    let draft = map f c.args.fields.now in
    let old = c.args.ids.now in
    let new = c.loop-index.ids in
    let k = c.loop-index.index in
    let top = c.loop-index.last in
    let x = c.index-fields-index.result in
    let t : Turned c.args.start draft old new k top = simp (to_z-of_z, c.loop-index.last-is) at c.loop-index.invariant in
    let none : c.id_of.result ≡ None = search rules in
    let told : c.from_residual.result ≡ Err (NoNumber k) = search rules in
    let s : NoId top draft (f x) = simp (none, c.loop-index.last-is) at c.id_of.ensures in
    let a : Halted c.args.start draft old new k
    = turn_halts f c.args.fields.now c.args.start old new k top t x c.loop-index-test.true c.index-fields-index.is (omega arith) s in
    record { answer = rw told a; lawful = rw told (lawful {A = Unit {0}} c.args.start draft old new (Err (NoNumber k)) a) }

pub loop-index-preserved : goal.loop-index-preserved
loop-index-preserved g c =
    let fs : SFits w32 c.args.start = c.ranges.start in
    let f = g.T.Identified.id in
    let draft = map f c.args.fields.now in
    let old = c.args.ids.now in
    let new = c.loop-index.ids in
    let k = c.loop-index.index in
    let top = c.loop-index.last in
    let x = c.index-fields-index.result in
    let id = c.in_ok-id.id in
    let some : c.id_of.result ≡ Some id = search rules in
    let fx : SFits w32 id = search rules in
    let t : Turned c.args.start draft old new k top = simp (to_z-of_z, c.loop-index.last-is) at c.loop-index.invariant in
    let s : IsId top draft (f x) id = simp (some, c.loop-index.last-is) at c.id_of.ensures in
    let fr : SFits w32 c.max-last.result = search rules in
    let e : c.max-last.result ≡ int_max top id = simp (to_z-of_z, c.loop-index.last-is) at c.max-last.ensures.value in
    simp to_z-of_z (subst (Turned c.args.start draft old (set new k id) (k + 1)) (sym e)
    (turn_more f c.args.fields.now c.args.start old new k top t x c.loop-index-test.true c.index-fields-index.is id (omega arith) s))

pub returns : goal.returns
returns g c =
    let fs : SFits w32 c.args.start = c.ranges.start in
    let f = g.T.Identified.id in
    let draft = map f c.args.fields.now in
    let old = c.args.ids.now in
    let new = c.loop-index.ids in
    let t : Turned c.args.start draft old new c.loop-index.index c.loop-index.last = simp (to_z-of_z, c.loop-index.last-is) at c.loop-index.invariant in
    let a : Wrote c.args.start draft old new = turn_all f c.args.fields.now c.args.start old new c.loop-index.index c.loop-index.last t (omega arith) (omega arith) in
    record { answer = a; lawful = lawful {A = Unit {0}} c.args.start draft old new (Ok tt) a }
