-- The rule of a selection, what its refusal tells, and what selecting an id does. Assumes nothing.
use Rattle.std.specs.Prelude.{◌≡◌, false, cond, List, [], ◌∷◌, ◌++◌, length, ℤ, None, codes, Result}
use Rattle.std.specs.Result as results
use Rattle.faults.specs.Told.{Told}
use Rattle.faults.specs.Rules.{Rule, rule, FirstBroken, AllKept}
use Rattle.faults.specs.declared.error.ErrorKind.TheVariants.{PreconditionFailed}
use Rattle.faults.specs.declared.error.Layer.TheVariants.{Selection}
use Rattle.schemas.specs.declared.selection.SelectionFault.{SelectionFault}
use Rattle.schemas.specs.declared.selection.SelectionFault.TheVariants.{Full}
use Rattle.schemas.specs.Ids.{has}

-- broken where 64 ids are selected and this one is not among them
abbrev pub select_rules : List ℤ → ℤ → List Rule
select_rules ids id = rule 34 ((length ids ≡ 64) × (has ids id ≡ false)) ∷ []

abbrev pub told : SelectionFault → Told
told Full = record { number = 34; kind = PreconditionFailed; layer = Selection; reason = codes "selection-full"; value = None; index = None }

-- a new id goes behind the others
abbrev pub with_id : List ℤ → ℤ → List ℤ
with_id ids id = cond (has ids id) ids (ids ++ id ∷ [])

-- the ids before and after, and the answer
abbrev pub Selects : List ℤ → ℤ → List ℤ → Result (Unit {0}) SelectionFault → Type 0
Selects before id after r =
    results.MatchResult r (λ _. AllKept (select_rules before id) × (after ≡ with_id before id)) (λ fault. FirstBroken (select_rules before id) (told fault) × (after ≡ before))
