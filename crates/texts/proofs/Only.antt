-- A text has one loose reading only. Assumes nothing.
use Rattle.std.proofs.Common.{◌≡◌, ℕ, List, Ok, Err, Result, ap}
use Rattle.transforms.specs.declared.transform.Transform.{Transform}
use Rattle.texts.specs.declared.fault.TextFault.{TextFault}
use Rattle.texts.specs.Tells.{told}
use Rattle.texts.specs.Reading.{LooseReading, text_rules}
use Rattle.texts.proofs.Heads.{spells_only}
use Rattle.faults.proofs.Firsts.{not_both}
use Rattle.texts.proofs.Refusals.{fault_only, spells_kept}

pub loose_only : (text : List ℕ) (r s : Result Transform TextFault) → LooseReading text r → LooseReading text s → s ≡ r
loose_only text (Ok t) (Ok u) a b = ap (λ x. Ok x) (spells_only text u t b a)
loose_only text (Ok t) (Err g) a b = absurd (not_both (told g) (text_rules text) (spells_kept text t a) b)
loose_only text (Err f) (Ok u) a b = absurd (not_both (told f) (text_rules text) (spells_kept text u b) a)
loose_only text (Err f) (Err g) a b = ap (λ x. Err x) (fault_only (text_rules text) g f b a)
