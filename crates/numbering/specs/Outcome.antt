-- What numbering answers and leaves in the memory that it is lent, and what follows of it. Assumes nothing.
use Rattle.std.specs.Prelude.{◌≡◌, ℕ, ◌<◌, ◌≤◌, ◌⊎◌, List, length, take, drop, ℤ, Option, Result, MatchResult, OnOk}
use Rattle.numbering.specs.Ids.{Distinct}
use Rattle.numbering.specs.Numbering.{Numbering, Stuck, StatedOnce, AllState}
use Rattle.numbering.specs.declared.NumberFault.{NumberFault}
use Rattle.numbering.specs.declared.NumberFault.TheVariants.{Short, NoNumber}

-- the front is the numbering, and the rest is as it was
pub record Wrote (start : ℤ) (draft : List (Option ℤ)) (old new : List ℤ) : Type 0 where
  pub room : length draft ≤ length old
  pub numbering : Numbering start draft (take (length draft) new)
  pub rest : drop (length draft) new ≡ drop (length draft) old

-- the field at the place has no permitted number; the ids before it are written, and the rest is as it was
pub record Halted (start : ℤ) (draft : List (Option ℤ)) (old new : List ℤ) (place : ℕ) : Type 0 where
  pub room : length draft ≤ length old
  pub stuck : Stuck start draft place (take place new)
  pub rest : drop place new ≡ drop place old

-- there is less room than there are fields, and nothing is touched
pub record Untouched (draft : List (Option ℤ)) (old new : List ℤ) : Type 0 where
  pub short : length old < length draft
  pub same : new ≡ old

abbrev pub Refused : ℤ → List (Option ℤ) → List ℤ → List ℤ → NumberFault → Type 0
Refused start draft old new Short = Untouched draft old new
Refused start draft old new (NoNumber place) = Halted start draft old new place

abbrev pub Answered : {A : Type 0} → ℤ → List (Option ℤ) → List ℤ → List ℤ → Result A NumberFault → Type 0
Answered start draft old new r = MatchResult r (λ _. Wrote start draft old new) (λ fault. Refused start draft old new fault)

-- the laws of numbering, at an answer
pub record Lawful {A : Type 0} (start : ℤ) (draft : List (Option ℤ)) (new : List ℤ) (r : Result A NumberFault) : Type 0 where
  -- any ids that number the draft are those that were written, and only want of room refuses it
  pub only : (ids : List ℤ) → Numbering start draft ids → MatchResult r (λ _. ids ≡ take (length draft) new) (λ fault. fault ≡ Short)
  -- a draft that is stuck is refused, at the place where it is stuck or for want of room
  pub stuck : (place : ℕ) (before : List ℤ) → Stuck start draft place before → MatchResult r (λ _. ⊥) (λ fault. (fault ≡ NoNumber place) ⊎ (fault ≡ Short))
  -- where no number is stated twice, no number is written twice
  pub distinct : StatedOnce draft → OnOk r (Distinct (take (length draft) new))
  -- where every field states its id those are what is written, whatever the start, and only want of room refuses it
  pub stable : (ids : List ℤ) → AllState draft ids → MatchResult r (λ _. take (length draft) new ≡ ids) (λ fault. fault ≡ Short)
