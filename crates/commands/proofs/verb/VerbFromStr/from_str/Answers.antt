-- The first verb that has the word is found, and where none is, none has it.
use Rattle.std.proofs.Common.{◌≡◌, rules, ◌≢◌}
use Rattle.std.proofs.lemmas.Iterator.{first_from_find, YieldsList-from_slice}
use borrow.Author.Tests.{tests}
use Rattle.commands.specs.declared.verb.TheConstants.{VERBS}
use Rattle.commands.specs.Words.{word_of}
use Rattle.commands.proofs.Verbs.{found}
use Rattle.commands.proofs.Read.{answered}
use Rattle.commands.proofs.verb.VerbFromStr.from_str.Goals as goal

pub returns : goal.returns
returns c =
    answered c.args.word.now c.copied-verb.result _ c.ok_or.result c.ok_or.ensures.value
    (found c.args.word.now c.find.result c.copied-verb.result (search rules)
    (first_from_find _ _ c.find.result (λ verb. word_of verb ≡ c.args.word.now) (λ verb. word_of verb ≢ c.args.word.now) c.find.ensures.ran
    (YieldsList-from_slice VERBS c.iter.ensures.rest) (λ x q k. search (rules, tests)) (λ x q k. search (rules, tests))))
