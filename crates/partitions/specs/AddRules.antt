-- The rules of a new field beside those that are there, in the order that decides a refusal. Assumes nothing.
use Rattle.std.specs.Prelude.{◌≤◌, List, [], ◌∷◌, ◌++◌, length, Result, MatchResult}
use Rattle.faults.specs.Rules.{Rule, rule, rule_at, AllKept, FirstBroken}
use Rattle.names.specs.NameRules.{name_rules}
use Rattle.partitions.specs.DraftFaults.{told}
use Rattle.partitions.specs.Fields.{PaperField, Named, AlikeOn, HasStatedId}
use Rattle.partitions.specs.Places.{FirstAt, Somewhere}
use Rattle.partitions.specs.declared.fault.DraftFault.{DraftFault}

-- another field has the name; another field on the source is alike. Each is told with the place of the first
abbrev pub used_rules : List PaperField → PaperField → List Rule
used_rules fs f = rule_at 20 (FirstAt (Named f.name) fs) ∷ rule_at 21 (FirstAt (AlikeOn f.source f.transform) fs) ∷ []

-- a stated id is another field's; the most fields are there
abbrev pub last_rules : List PaperField → PaperField → List Rule
last_rules fs f = rule 27 (Somewhere (HasStatedId f.id) fs) ∷ rule 28 (64 ≤ length fs) ∷ []

-- the name's own rules come first
abbrev pub add_rules : List PaperField → PaperField → List Rule
add_rules fs f = name_rules f.name ++ (used_rules fs f ++ last_rules fs f)

-- accepted where every rule is kept, else refused with the first that is broken
abbrev pub Judged : {T : Type 0} → List Rule → Result T DraftFault → Type 0
Judged rules r = MatchResult r (λ _. AllKept rules) (λ fault. FirstBroken rules (told fault))
