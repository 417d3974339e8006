-- A text beside the printed text of its transform. Assumes nothing.
use Rattle.std.specs.Prelude.{◌≡◌, ℕ, List, ◌++◌, Ok, Err, codes, Result, MatchResult, ◌≢◌}
use Rattle.faults.specs.Refusals.{told_by}
use Rattle.faults.specs.declared.refusal.Refusal.{Refusal}
use Rattle.texts.specs.Reading.{LooseReading}
use Rattle.texts.specs.Tells.{told}
use Rattle.texts.specs.declared.fault.TextFault.{TextFault}
use Rattle.transforms.specs.Printed.{printed}
use Rattle.transforms.specs.declared.transform.Transform.{Transform}
use Rattle.replies.specs.declared.normal.Normal.{Normal}
use Rattle.replies.specs.declared.normal.Normal.TheVariants.{Same, Other}

-- read loosely as the transform, the text is its printed text or is not
abbrev pub Means : List ℕ → Normal → Type 0
Means text (Same t) = LooseReading text (Ok t) × (text ≡ printed t)
Means text (Other t) = LooseReading text (Ok t) × (text ≢ printed t)

-- or the reading is refused so
abbrev pub Normalised : List ℕ → Result Normal Refusal → Type 0
Normalised text r = MatchResult r (Means text) (λ refusal. (f : TextFault) × (LooseReading text (Err f) × (told_by refusal ≡ told f)))

abbrev pub meant : Normal → Transform
meant (Same t) = t
meant (Other t) = t

abbrev pub normal_text : Normal → List ℕ
normal_text (Same t) = printed t ++ codes ", the printed text"
normal_text (Other t) = printed t ++ codes ", not the printed text"
