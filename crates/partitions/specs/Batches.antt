-- What a batch of fields does under any rules of an add: all are added, each after those before it, or none. Assumes nothing.
use Rattle.std.specs.Prelude.{◌≡◌, ℕ, ◌<◌, List, [], ◌∷◌, ◌++◌, map, length, take, Some, None, Option, Result, MatchResult, slice_index_or}
use Rattle.std.specs.List.{flat_map}
use Rattle.std.specs.Option.{option_map, option_to_list}
use Rattle.faults.specs.Told.{Told}
use Rattle.faults.specs.Rules.{Rule, rule, AllKept, FirstBroken}
use Rattle.names.specs.Placed.{placed}
use Rattle.partitions.specs.BatchFaults.{cause_told, batch_told}
use Rattle.partitions.specs.Fields.{PaperField, field_of}
use Rattle.partitions.specs.declared.batch.BatchCause.{BatchCause}
use Rattle.partitions.specs.declared.batch.BatchFault.{BatchFault}
use Rattle.partitions.specs.declared.batch.Batch.{Batch}
use Rattle.partitions.specs.declared.batch.BatchField.{BatchField}

-- a field of the batch, or none where its name's place is outside the area
abbrev pub entry : List ℕ → BatchField → Option PaperField
entry area b = option_map (λ name. field_of b.source_id b.field_id name b.transform) (placed b.name.start b.name.length area)

abbrev pub entries : List ℕ → List BatchField → List (Option PaperField)
entries area bs = map (entry area) bs

abbrev pub entries_of : Batch → List (Option PaperField)
entries_of b = entries b.area.now b.fields.now

-- the fields that entries give
abbrev pub given : List (Option PaperField) → List PaperField
given es = flat_map option_to_list es

-- a field that may be missing, after the fields fs: that it is missing breaks the rule of the number, and else the rules
-- of the field follow
module _ (rulesOf : List PaperField → PaperField → List Rule) where
  abbrev rest : List PaperField → Option PaperField → List Rule
  rest fs None = []
  rest fs (Some f) = rulesOf fs f

  abbrev pub rules_unless_none : ℕ → List PaperField → Option PaperField → List Rule
  rules_unless_none number fs e = rule number (e ≡ None) ∷ rest fs e

  abbrev pub entry_rules : List PaperField → Option PaperField → List Rule
  entry_rules fs e = rules_unless_none 9 fs e

  -- one entry
  abbrev pub AddsEntry : List PaperField → Option PaperField → Result (Unit {0}) BatchCause → List PaperField → Type 0
  AddsEntry fs e r after = MatchResult r (λ _. AllKept (entry_rules fs e) × (after ≡ fs ++ option_to_list e)) (λ cause. FirstBroken (entry_rules fs e) (cause_told cause) × (after ≡ fs))

  -- the entry at k keeps its rules after the fields fs and the entries before it
  abbrev pub KeptAt : List PaperField → List (Option PaperField) → ℕ → Type 0
  KeptAt fs es k = (d : Option PaperField) → AllKept (entry_rules (fs ++ given (take k es)) (slice_index_or es k d))

  abbrev pub EachKept : List PaperField → List (Option PaperField) → Type 0
  EachKept fs es = (k : ℕ) → k < length es → KeptAt fs es k

  -- the entry at i is the first that does not, and this is told of it
  pub record RefusedAt (fs : List PaperField) (es : List (Option PaperField)) (i : ℕ) (t : Told) : Type 0 where
    pub inside : i < length es
    pub before : (k : ℕ) → k < i → KeptAt fs es k
    pub broken : (d : Option PaperField) → FirstBroken (entry_rules (fs ++ given (take i es)) (slice_index_or es i d)) t

  abbrev pub AddsAll : List PaperField → List (Option PaperField) → Result (Unit {0}) BatchFault → List PaperField → Type 0
  AddsAll fs es r after = MatchResult r (λ _. EachKept fs es × (after ≡ fs ++ given es)) (λ fault. RefusedAt fs es fault.index (batch_told fault) × (after ≡ fs))
