-- Histories of calls: one more call. Assumes nothing.
use Rattle.std.proofs.Common.{List, [], ◌∷◌, ◌++◌, sym, refl, subst}
use Rattle.drafts.specs.Calls.{Call, Answer, Step, RanFrom, Continues}
use Rattle.drafts.specs.Paper.{Paper, blank_paper}

pub one_more : (p q r : Paper) (call : Call) (answer : Answer) (calls : List Call) (answers : List Answer) → Step q call answer r → RanFrom p calls answers q → RanFrom p (calls ++ call ∷ []) (answers ++ answer ∷ []) r
one_more p q r call answer [] [] s h = (r, (subst (λ (o : Paper). Step o call answer r) (sym h) s, refl))
one_more p q r call answer [] (a ∷ answers) s h = absurd h
one_more p q r call answer (c ∷ calls) [] s h = absurd h
one_more p q r call answer (c ∷ calls) (a ∷ answers) s h = (h.0, (h.1.0, one_more h.0 q r call answer calls answers s h.1.1))

-- a step goes on every history
pub continued : (p q : Paper) (call : Call) (answer : Answer) → Step p call answer q → Continues p call answer q
continued p q call answer s = λ calls answers h. one_more blank_paper p q call answer calls answers s h
