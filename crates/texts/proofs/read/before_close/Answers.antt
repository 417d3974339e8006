-- Each turn drops one closing bracket.
use Rattle.std.proofs.Common.{◌≡◌, ◌+◌, ◌∷◌, [], ◌++◌, Some}
use Rattle.std.proofs.lemmas.Slice.Eq.{strip_suffix_is}
use Rattle.std.proofs.lemmas.Bool.Decides.{Decides-eqb}
use Rattle.texts.proofs.Dropped.{one_close}
use Rattle.texts.proofs.read.before_close.Goals as goal

pub loop-before-preserved : goal.loop-before-preserved
loop-before-preserved c =
    let i = c.loop-before.invariant in
    let e : c.loop-before.rest.now ≡ c.in-Some.before.now ++ 93 ∷ [] = strip_suffix_is Decides-eqb c.loop-before.rest.now (93 ∷ []) (Some c.in-Some.before) c.in-Some.ensures.cases in
    (i.0 + 1, one_close c.args.text.now c.loop-before.rest.now c.in-Some.before.now i.0 i.1 e)
