-- A bound add, from what its checks say. Assumes nothing.
use Rattle.std.proofs.Common.{◌≡◌, List, ◌++◌, Some, Ok, Err, Option, Result}
use Rattle.faults.specs.Told.{Told}
use Rattle.faults.specs.Rules.{Rule, AllKept, FirstBroken}
use Rattle.names.specs.GoodName.{GoodName}
use Rattle.names.specs.NameRules.{name_rules}
use Rattle.names.proofs.Good as good
use Rattle.schemas.specs.Columns.{Columns}
use Rattle.partitions.specs.AddRules.{used_rules, Judged}
use Rattle.partitions.specs.DraftFaults.{told}
use Rattle.partitions.specs.Fields.{PaperField}
use Rattle.partitions.specs.declared.fault.DraftFault.{DraftFault}
use Rattle.partitions.proofs.Batching.{there_kept, there_broken, there_given}
use Rattle.faults.proofs.Firsts.{kept_join, broken_front, broken_back}
use Rattle.drafts.specs.BoundAdds.{AddsBound, AddsNamed}
use Rattle.drafts.specs.SourceRules.{source_rules, early_rules, bound_rules}

-- where the earlier rules are kept, the later ones judge
pub judged_later : (xs ys : List Rule) (r : Result (Unit {0}) DraftFault) → AllKept xs → Judged ys r → Judged (xs ++ ys) r
judged_later xs ys (Ok u) k j = kept_join xs ys k j
judged_later xs ys (Err fault) k j = broken_back (told fault) xs ys k j

module _ (c : Columns) (fs : List PaperField) (f : PaperField) where
  abbrev used : List Rule
  used = used_rules fs f

  abbrev source : List Rule
  source = source_rules c f

  pub used_first : GoodName f.name → (t : Told) → FirstBroken used t → FirstBroken (early_rules c fs f) t
  used_first g t b = broken_back t (name_rules f.name) (used ++ source) (good.keeps f.name g) (broken_front t used source b)

  pub source_last : GoodName f.name → AllKept used → (r : Result (Unit {0}) DraftFault) → Judged source r → Judged (early_rules c fs f) r
  source_last g u r j = judged_later (name_rules f.name) (used ++ source) r (good.keeps f.name g) (judged_later used source r u j)

-- a field that may be missing, where it is there
module _ (c : Columns) (fs : List PaperField) (e : Option PaperField) (f : PaperField) (is : e ≡ Some f) where
  pub named_add : (r : Result (Unit {0}) DraftFault) (after : List PaperField) → AddsBound c fs f r after → AddsNamed c fs e r after
  named_add (Ok u) after a = (there_kept (bound_rules c) fs e f is 30 a.0, there_given (bound_rules c) fs e f is 30 after a.1)
  named_add (Err fault) after a = (there_broken (bound_rules c) fs e f is 30 (told fault) a.0, a.1)
