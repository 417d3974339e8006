-- What each refusal of a text tells. Assumes nothing.
use Rattle.std.specs.Prelude.{None, codes}
use Rattle.faults.specs.Told.{Told}
use Rattle.faults.specs.declared.error.ErrorKind.TheVariants.{DataInvalid}
use Rattle.faults.specs.declared.error.Layer.TheVariants.{Text}
use Rattle.texts.specs.declared.fault.TextFault.{TextFault}
use Rattle.texts.specs.declared.fault.TextFault.TheVariants.{WordUnknown, WidthMissing, WidthNonDigit, WidthOverflow, NotPrinted}

abbrev pub told : TextFault → Told
told WordUnknown = record { number = 4; kind = DataInvalid; layer = Text; reason = codes "word-unknown"; value = None; index = None }
told WidthMissing = record { number = 5; kind = DataInvalid; layer = Text; reason = codes "width-missing"; value = None; index = None }
told WidthNonDigit = record { number = 6; kind = DataInvalid; layer = Text; reason = codes "width-non-digit"; value = None; index = None }
told WidthOverflow = record { number = 7; kind = DataInvalid; layer = Text; reason = codes "width-overflow"; value = None; index = None }
told NotPrinted = record { number = 13; kind = DataInvalid; layer = Text; reason = codes "not-printed"; value = None; index = None }
