-- What closing a draft's fields answers and leaves, and what follows of it. Assumes nothing.
use Rattle.std.specs.Prelude.{◌≡◌, ℕ, List, ℤ, Some, Result, MatchResult}
use Rattle.numbering.specs.Numbering.{Numbering, Stuck, AllState}
use Rattle.partitions.specs.Fields.{PaperField}
use Rattle.partitions.specs.declared.fault.DraftFault.{DraftFault}
use Rattle.partitions.specs.declared.fault.DraftFault.TheVariants.{NoNumber}
use Rattle.closed.specs.Bare.{bares, stateds}
use Rattle.closed.specs.Closed.{paper_closed, closed_ids}
use Rattle.closed.specs.declared.spec.PartitionSpec.{PartitionSpec}

-- the fields of a draft, in their order, with these ids: those that it states, and for the others the least permitted
pub record ClosedAs (start : ℤ) (draft closed : List PaperField) (ids : List ℤ) : Type 0 where
  pub same : bares closed ≡ bares draft
  pub state : AllState (stateds closed) ids
  pub numbering : Numbering start (stateds draft) ids

-- some field that states no id has no permitted number
pub record SomeStuck (start : ℤ) (draft : List PaperField) : Type 0 where
  pub place : ℕ
  pub before : List ℤ
  pub stuck : Stuck start (stateds draft) place before

-- the spec has the id and the closed fields, or the draft can't be closed and the spec is as it was
abbrev pub Closes : ℤ → ℤ → List PaperField → PartitionSpec → PartitionSpec → Result (Unit {0}) DraftFault → Type 0
Closes specId start draft old new r =
    MatchResult r (λ _. ((paper_closed new).spec_id ≡ Some specId) × ClosedAs start draft (paper_closed new).fields (closed_ids new))
    (λ fault. (fault ≡ NoNumber) × SomeStuck start draft × (new ≡ old))

-- the laws of closing, at an answer
pub record ClosingLaws {A : Type 0} (start : ℤ) (draft closed : List PaperField) (ids : List ℤ) (r : Result A DraftFault) : Type 0 where
  -- any ids that number the draft are those that were given, and the draft is not refused
  pub only : (other : List ℤ) → Numbering start (stateds draft) other → MatchResult r (λ _. other ≡ ids) (λ _. ⊥)
  -- a draft that has a stuck field is refused
  pub stuck : SomeStuck start draft → MatchResult r (λ _. ⊥) (λ fault. fault ≡ NoNumber)
  -- a draft that states every id is closed to its own fields, whatever the start
  pub stable : (stated : List ℤ) → AllState (stateds draft) stated → MatchResult r (λ _. closed ≡ draft) (λ _. ⊥)
