-- What holds at each place of the list of verbs holds of every verb. Assumes nothing.
use Rattle.std.proofs.Common.{◌≡◌, ℕ, ◌<◌, List, length, get_or, Some, None, Option, Bor, lit<, arith, ◌≢◌}
use Rattle.std.specs.List.{AllWithin, HoldsAt}
use Rattle.std.specs.Option.{MatchOption, option_copied}
use Rattle.commands.specs.Words.{word_of, NoVerb}
use Rattle.commands.specs.declared.verb.TheConstants.{VERBS}
use Rattle.commands.specs.declared.verb.Verb.{Verb}
use Rattle.commands.specs.declared.verb.Verb.TheVariants.{Column, Columns, Regular, Sheet, Select, Name, Transform, Strict, Result, Preserves, Satisfies, Alike, Draft, Unbound, SpecId, Start, Add, AddByName, Batch, Close, Bind, Open, OpenBind, PartitionType, Unpartitioned, Sequential, Highest, Compatible, Equal, RecordOf, RecordUnbound, Read, Items, SortNew, SortId, Sort, SortBuild, SortBuildUnbound}

pub of_each : (P : Verb → Type 0) → ((k : ℕ) → k < 38 → P (get_or VERBS k Column)) → (verb : Verb) → P verb
of_each P h Column = h 0 (lit< tt)
of_each P h Columns = h 1 (lit< tt)
of_each P h Regular = h 2 (lit< tt)
of_each P h Sheet = h 3 (lit< tt)
of_each P h Select = h 4 (lit< tt)
of_each P h Name = h 5 (lit< tt)
of_each P h Transform = h 6 (lit< tt)
of_each P h Strict = h 7 (lit< tt)
of_each P h Result = h 8 (lit< tt)
of_each P h Preserves = h 9 (lit< tt)
of_each P h Satisfies = h 10 (lit< tt)
of_each P h Alike = h 11 (lit< tt)
of_each P h Draft = h 12 (lit< tt)
of_each P h Unbound = h 13 (lit< tt)
of_each P h SpecId = h 14 (lit< tt)
of_each P h Start = h 15 (lit< tt)
of_each P h Add = h 16 (lit< tt)
of_each P h AddByName = h 17 (lit< tt)
of_each P h Batch = h 18 (lit< tt)
of_each P h Close = h 19 (lit< tt)
of_each P h Bind = h 20 (lit< tt)
of_each P h Open = h 21 (lit< tt)
of_each P h OpenBind = h 22 (lit< tt)
of_each P h PartitionType = h 23 (lit< tt)
of_each P h Unpartitioned = h 24 (lit< tt)
of_each P h Sequential = h 25 (lit< tt)
of_each P h Highest = h 26 (lit< tt)
of_each P h Compatible = h 27 (lit< tt)
of_each P h Equal = h 28 (lit< tt)
of_each P h RecordOf = h 29 (lit< tt)
of_each P h RecordUnbound = h 30 (lit< tt)
of_each P h Read = h 31 (lit< tt)
of_each P h Items = h 32 (lit< tt)
of_each P h SortNew = h 33 (lit< tt)
of_each P h SortId = h 34 (lit< tt)
of_each P h Sort = h 35 (lit< tt)
of_each P h SortBuild = h 36 (lit< tt)
of_each P h SortBuildUnbound = h 37 (lit< tt)

-- the first verb that has the word was found, or none has it
pub found : (word : List ℕ) (r : Option (Bor Verb)) (o : Option Verb) → o ≡ option_copied r
    → MatchOption r (AllWithin (λ verb. word_of verb ≢ word) VERBS 0 (length VERBS))
    (λ x. (word_of x.now ≡ word) × (i : ℕ) × (i < length VERBS) × HoldsAt (λ y. y ≡ x.now) VERBS i × AllWithin (λ verb. word_of verb ≢ word) VERBS 0 i)
    → MatchOption o (NoVerb word) (λ verb. word_of verb ≡ word)
found word None o e none = rw e (of_each (λ verb. word_of verb ≢ word) (λ k h. none k Column (omega arith) h))
found word (Some x) o e m = rw e m.0
