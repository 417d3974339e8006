-- What a bound add does to the fields, and what the check of many fields against a schema answers. Assumes nothing.
use Rattle.std.specs.Prelude.{◌≡◌, ℕ, ◌<◌, List, [], ◌∷◌, ◌++◌, length, None, Option, Result, MatchResult, slice_index_or}
use Rattle.std.specs.Option.{option_map, option_to_list}
use Rattle.std.specs.List.{AllByRecursion}
use Rattle.faults.specs.Rules.{Rule, AllKept, FirstBroken}
use Rattle.faults.specs.Told.{Told}
use Rattle.transforms.specs.declared.transform.Transform.{Transform}
use Rattle.schemas.specs.Columns.{Columns}
use Rattle.partitions.specs.BatchFaults.{batch_told}
use Rattle.partitions.specs.Batches.{rules_unless_none}
use Rattle.partitions.specs.DraftFaults.{told}
use Rattle.partitions.specs.Fields.{PaperField, field_of}
use Rattle.partitions.specs.declared.batch.BatchFault.{BatchFault}
use Rattle.partitions.specs.declared.fault.DraftFault.{DraftFault}
use Rattle.drafts.specs.SourceRules.{source_rules, bound_rules, Admitted}

-- the fields become `next` where every rule is kept; else the first broken rule is told, and they stay
abbrev pub Becomes : List Rule → List PaperField → List PaperField → Result (Unit {0}) DraftFault → List PaperField → Type 0
Becomes rules fs next r after = MatchResult r (λ _. AllKept rules × (after ≡ next)) (λ fault. FirstBroken rules (told fault) × (after ≡ fs))

abbrev pub AddsBound : Columns → List PaperField → PaperField → Result (Unit {0}) DraftFault → List PaperField → Type 0
AddsBound c fs f r after = Becomes (bound_rules c fs f) fs (fs ++ f ∷ []) r after

-- the field on the column that a source's name leads to, if it leads to one
abbrev pub on_named : Columns → List ℕ → List ℕ → Transform → Option PaperField
on_named c source name transform = option_map (λ id. field_of id None name transform) (c.by_name source)

-- the field is added where there is one; that there is none breaks rule 30
abbrev pub named_rules : Columns → List PaperField → Option PaperField → List Rule
named_rules c fs e = rules_unless_none (bound_rules c) 30 fs e

abbrev pub AddsNamed : Columns → List PaperField → Option PaperField → Result (Unit {0}) DraftFault → List PaperField → Type 0
AddsNamed c fs e r after = Becomes (named_rules c fs e) fs (fs ++ option_to_list e) r after

-- the field at i is the first that the columns do not admit, and this is told of it
pub record NotAdmittedAt (c : Columns) (fs : List PaperField) (i : ℕ) (t : Told) : Type 0 where
  pub inside : i < length fs
  pub before : (k : ℕ) (d : PaperField) → k < i → Admitted c (slice_index_or fs k d)
  pub broken : (d : PaperField) → FirstBroken (source_rules c (slice_index_or fs i d)) t

-- the columns admit every field, or one is told that they do not
abbrev pub AdmitsAll : Columns → List PaperField → Result (Unit {0}) BatchFault → Type 0
AdmitsAll c fs r = MatchResult r (λ _. AllByRecursion (Admitted c) fs) (λ fault. NotAdmittedAt c fs fault.index (batch_told fault))
