-- What loose and strict reading answer. Assumes nothing.
use Rattle.std.specs.Prelude.{◌≡◌, ℕ, List, [], ◌∷◌, Ok, Err, Result}
use Rattle.faults.specs.Rules.{Rule, rule, FirstBroken}
use Rattle.transforms.specs.declared.transform.Transform.{Transform}
use Rattle.transforms.specs.Printed.{printed, Narrow}
use Rattle.texts.specs.declared.fault.TextFault.{TextFault}
use Rattle.texts.specs.Tells.{told}
use Rattle.texts.specs.Width.{Missing, Strange, TooLarge}
use Rattle.texts.specs.Words.{Wide, Spells, NoWord}

-- the rules of a text that is read loosely, in their order: 4 word unknown, 5 width missing, 6 width non-digit, 7 width overflow
abbrev pub text_rules : List ℕ → List Rule
text_rules text =
    rule 4 (NoWord text)
    ∷ rule 5 ((bare : List ℕ) × (Wide text bare × Missing bare))
    ∷ rule 6 ((bare : List ℕ) × (Wide text bare × Strange bare))
    ∷ rule 7 ((bare : List ℕ) × (Wide text bare × TooLarge bare))
    ∷ []

-- a text that spells a transform is read as that transform, and any other is refused by its first broken rule
abbrev pub LooseReading : List ℕ → Result Transform TextFault → Type 0
LooseReading text (Ok t) = Spells text t
LooseReading text (Err f) = FirstBroken (text_rules text) (told f)

-- the text is the print of a transform
abbrev pub Prints : Transform → List ℕ → Type 0
Prints t text = Narrow t × (text ≡ printed t)

-- the one rule of a text that is read strictly: 13 not printed, it is the print of no transform
abbrev pub print_rules : List ℕ → List Rule
print_rules text = rule 13 ((t : Transform) → Prints t text → ⊥) ∷ []

-- a text that is the print of a transform is read as that transform, and any other is refused
abbrev pub StrictReading : List ℕ → Result Transform TextFault → Type 0
StrictReading text (Ok t) = Prints t text
StrictReading text (Err f) = FirstBroken (print_rules text) (told f)
