-- The line that a fault is printed as, and what no reading of a line answers. Assumes nothing.
use Rattle.std.specs.Prelude.{◌≡◌, ℕ, List, codes, Bool, true, false, Result, IfErr}
use Rattle.faults.specs.Refusals.{told_by, refusal_text}
use Rattle.commands.specs.declared.fault.ScriptFault.{ScriptFault}
use Rattle.commands.specs.declared.fault.ScriptFault.TheVariants.{Memory, BadCommand, Refused}

abbrev pub fault_text : ScriptFault → List ℕ
fault_text Memory = codes "out of memory"
fault_text BadCommand = codes "bad-command"
fault_text (Refused refusal) = refusal_text (told_by refusal)

abbrev pub refuses : ScriptFault → Bool
refuses Memory = false
refuses BadCommand = false
refuses (Refused refusal) = true

-- to read is to ask for nothing: a line that is not read is no command, or there is no memory
abbrev pub NothingRefused : {A : Type 0} → Result A ScriptFault → Type 0
NothingRefused r = IfErr r (λ fault. refuses fault ≡ false)
