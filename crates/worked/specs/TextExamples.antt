-- Texts of transforms worked by hand. Assumes nothing.
use Rattle.std.specs.Prelude.{ℕ, List, Ok, Err, codes}
use Rattle.texts.specs.Reading.{LooseReading, StrictReading}
use Rattle.texts.specs.declared.fault.TextFault.TheVariants.{WidthMissing, WidthNonDigit, WidthOverflow, NotPrinted}
use Rattle.transforms.specs.declared.transform.Transform.TheVariants.{Bucket}

-- read loosely as bucket 16, and strictly not at all
abbrev pub LooselySixteen : List ℕ → Type 0
LooselySixteen text = LooseReading text (Ok (Bucket 16)) × StrictReading text (Err NotPrinted)

abbrev pub SixteenInOtherWords : Type 0
SixteenInOtherWords = LooselySixteen (codes "bucket16") × LooselySixteen (codes "bucket[[16]]") × LooselySixteen (codes "bucket[+016]")

-- 7, 6 and 5
abbrev pub FirstWrongPlaceDecides : Type 0
FirstWrongPlaceDecides =
    LooseReading (codes "bucket[4294967296a]") (Err WidthOverflow) × LooseReading (codes "bucket[4294967295a]") (Err WidthNonDigit) × LooseReading (codes "truncate[]") (Err WidthMissing)
