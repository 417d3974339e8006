-- Fields that can be built are added one by one. Assumes nothing.
use Rattle.std.proofs.Common.{◌≡◌, ℕ, ◌+◌, ◌<◌, List, [], ◌∷◌, ◌++◌, length, get_or, take, Ok, Err, Result, sym, ◌∙◌, subst}
use Rattle.std.proofs.lemmas.List.{take_more}
use Rattle.faults.specs.Rules.{AllKept}
use Rattle.partitions.specs.Adds.{Adds}
use Rattle.partitions.specs.AddRules.{add_rules}
use Rattle.partitions.specs.Buildable.{Buildable}
use Rattle.partitions.specs.DraftFaults.{told}
use Rattle.partitions.specs.Fields.{PaperField}
use Rattle.partitions.specs.declared.fault.DraftFault.{DraftFault}
use Rattle.partitions.proofs.Builds.{built}
use Rattle.faults.proofs.Firsts.{not_both}

-- the field at i, after those before it
pub added_next : (fs : List PaperField) (i : ℕ) (f : PaperField) → i < length fs → Buildable fs → f ≡ get_or fs i f
    → (r : Result (Unit {0}) DraftFault) (before after : List PaperField) → before ≡ take i fs → Adds before f r after → after ≡ take (i + 1) fs
added_next fs i f lt b is r before after e a = added r (subst (λ (l : List PaperField). Adds l f r after) e a)
  where
    added : (r : Result (Unit {0}) DraftFault) → Adds (take i fs) f r after → after ≡ take (i + 1) fs
    added (Ok u) k = k.1 ∙ subst (λ (g : PaperField). take i fs ++ g ∷ [] ≡ take (i + 1) fs) (sym is) (sym (take_more fs i f lt))
    added (Err fault) k = absurd (not_both (told fault) (add_rules (take i fs) f) (subst (λ (g : PaperField). AllKept (add_rules (take i fs) g)) (sym is) (built fs b i f lt)) k.0)
