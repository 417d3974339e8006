-- The rules of names in the order that decides a refusal, and what each refusal tells. Assumes nothing.
use Rattle.std.specs.Prelude.{◌≡◌, ℕ, ◌<◌, List, [], ◌∷◌, length, Some, None, codes}
use Rattle.faults.specs.Told.{Told}
use Rattle.faults.specs.Rules.{Rule, rule, rule_at, AllKept}
use Rattle.faults.specs.declared.error.ErrorKind.TheVariants.{DataInvalid}
use Rattle.faults.specs.declared.error.Layer.TheVariants.{Name}
use Rattle.names.specs.WellFormed.{Front}
use Rattle.names.specs.GoodName.{GoodName}
use Rattle.names.specs.declared.name.NameFault.{NameFault}
use Rattle.names.specs.declared.name.NameFault.TheVariants.{Empty, Long, NotUtf8}

-- the first two are broken at no value, and the third at the length of the longest well-formed front
abbrev pub name_rules : List ℕ → List Rule
name_rules name =
    rule 1 (length name ≡ 0)
    ∷ rule 2 (128 < length name)
    ∷ rule_at 3 (λ n. Front name n)
    ∷ []

-- a name is good exactly when it keeps every rule
abbrev pub GoodExactlyWhenKept : Type 0
GoodExactlyWhenKept = (name : List ℕ) → (GoodName name → AllKept (name_rules name)) × (AllKept (name_rules name) → GoodName name)

-- number, kind, layer, reason and value of each refusal
abbrev pub told : NameFault → Told
told Empty = record { number = 1; kind = DataInvalid; layer = Name; reason = codes "name-empty"; value = None; index = None }
told Long = record { number = 2; kind = DataInvalid; layer = Name; reason = codes "name-long"; value = None; index = None }
told (NotUtf8 front) = record { number = 3; kind = DataInvalid; layer = Name; reason = codes "name-not-utf8"; value = Some front; index = None }
