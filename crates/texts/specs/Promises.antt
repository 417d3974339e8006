-- What printing and reading promise of each other. Assumes nothing.
use Rattle.std.specs.Prelude.{◌≡◌, ℕ, List, is_ok, IfOk, Ok, Decides, Result, MatchOption}
use Rattle.transforms.specs.declared.transform.Transform.{Transform}
use Rattle.transforms.specs.declared.transform.Transform.TheVariants.{Unknown}
use Rattle.transforms.specs.Printed.{printed}
use Rattle.transforms.specs.TableSpec.{document_text}
use Rattle.texts.specs.declared.fault.TextFault.{TextFault}
use Rattle.texts.specs.Reading.{LooseReading, StrictReading, Prints}

-- a printed text is read as the transform that it was printed from, loosely and strictly
abbrev pub ReadBack : Transform → Type 0
ReadBack t = LooseReading (printed t) (Ok t) × StrictReading (printed t) (Ok t)

-- the Table Spec gives each transform but unknown the text that is printed
abbrev pub AsDocumented : Transform → Type 0
AsDocumented t = MatchOption (document_text t) (t ≡ Unknown) (λ text. text ≡ printed t)

-- a text is accepted just when it is the print of a transform
abbrev pub AcceptsExactlyThePrinted : List ℕ → Result Transform TextFault → Type 0
AcceptsExactlyThePrinted text r = Decides (is_ok r) ((t : Transform) × Prints t text)

-- what strict reading accepts, loose reading reads alike
abbrev pub ReadLooselyToo : List ℕ → Result Transform TextFault → Type 0
ReadLooselyToo text r = IfOk r (λ t. LooseReading text (Ok t))

-- two texts that strict reading accepts are equal just when their transforms are
abbrev pub SameTextExactlyWhenSameTransform : Type 0
SameTextExactlyWhenSameTransform =
    (x y : List ℕ) (s t : Transform) → StrictReading x (Ok s) → StrictReading y (Ok t) → (x ≡ y → s ≡ t) × (s ≡ t → x ≡ y)
