-- An add, from what its checks say. Assumes nothing.
use Rattle.std.proofs.Common.{◌≡◌, List, Err, Result, sym, ap, ◌∙◌, subst}
use Rattle.faults.specs.Rules.{Rule, FirstBroken}
use Rattle.partitions.specs.AddRules.{Judged}
use Rattle.partitions.specs.DraftFaults.{told}
use Rattle.partitions.specs.declared.fault.DraftFault.{DraftFault}

-- what the exit of a `?` returns
pub refused : {T : Type 0} (rules : List Rule) (r : Result T DraftFault) (y fault : DraftFault) → r ≡ Err y → y ≡ fault → FirstBroken rules (told fault) → Judged rules r
refused {T} rules r y fault e q b = subst (λ (s : Result T DraftFault). Judged rules s) (sym (e ∙ ap Err q)) b
