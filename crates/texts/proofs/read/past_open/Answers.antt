-- Each turn drops one opening bracket.
use Rattle.std.proofs.Common.{◌≡◌, ◌+◌, [], ◌∷◌, Some}
use Rattle.std.proofs.lemmas.Slice.Eq.{strip_prefix_is}
use Rattle.std.proofs.lemmas.Bool.Decides.{Decides-eqb}
use Rattle.texts.proofs.Dropped.{one_open}
use Rattle.texts.proofs.read.past_open.Goals as goal

pub loop-after-preserved : goal.loop-after-preserved
loop-after-preserved c =
    let i = c.loop-after.invariant in
    let e : c.loop-after.rest.now ≡ 91 ∷ c.in-Some.after.now = strip_prefix_is Decides-eqb c.loop-after.rest.now (91 ∷ []) (Some c.in-Some.after) c.in-Some.ensures.cases in
    (i.0 + 1, one_open c.args.text.now c.loop-after.rest.now c.in-Some.after.now i.0 i.1 e)
