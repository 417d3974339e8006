-- The verb that was found, as an answer. Assumes nothing.
use Rattle.std.proofs.Common.{◌≡◌, ℕ, List, Some, None, Option, Result, MatchOption, MatchResult, refl}
use Rattle.std.specs.Option.{ok_or}
use Rattle.commands.specs.Words.{word_of, NoVerb}
use Rattle.commands.specs.declared.fault.ScriptFault.{ScriptFault}
use Rattle.commands.specs.declared.verb.Verb.{Verb}

pub answered : (word : List ℕ) (o : Option Verb) (fault : ScriptFault) (r : Result Verb ScriptFault) → r ≡ ok_or o fault
    → MatchOption o (NoVerb word) (λ verb. word_of verb ≡ word) → MatchResult r (λ verb. word_of verb ≡ word) (λ f. NoVerb word × (f ≡ fault))
answered word None fault r e m = rw e (m, refl)
answered word (Some verb) fault r e m = rw e m
