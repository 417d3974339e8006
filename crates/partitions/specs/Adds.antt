-- What an add does: the field stands at the end, or the first broken rule is told and nothing changes. Assumes nothing.
use Rattle.std.specs.Prelude.{◌≡◌, List, [], ◌∷◌, ◌++◌, Result, MatchResult}
use Rattle.faults.specs.Rules.{Rule, AllKept, FirstBroken}
use Rattle.partitions.specs.AddRules.{add_rules}
use Rattle.partitions.specs.DraftFaults.{told}
use Rattle.partitions.specs.Fields.{PaperField}
use Rattle.partitions.specs.declared.fault.DraftFault.{DraftFault}

-- by the rules of a field after those that are there
abbrev pub AddsBy : (List PaperField → PaperField → List Rule) → List PaperField → PaperField → Result (Unit {0}) DraftFault → List PaperField → Type 0
AddsBy rulesOf fs f r after = MatchResult r (λ _. AllKept (rulesOf fs f) × (after ≡ fs ++ f ∷ [])) (λ fault. FirstBroken (rulesOf fs f) (told fault) × (after ≡ fs))

-- where no schema is asked
abbrev pub Adds : List PaperField → PaperField → Result (Unit {0}) DraftFault → List PaperField → Type 0
Adds fs f r after = AddsBy add_rules fs f r after
