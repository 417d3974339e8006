-- What follows of an answer: the laws of numbering at each way that it can end. Assumes nothing.
use Rattle.std.proofs.Common.{◌≡◌, ℕ, ◌≤◌, List, length, take, ℤ, Ok, Err, Option, Result, refl, ap, inl, inr, arith}
use Rattle.numbering.specs.Outcome.{Answered, Lawful, Refused}
use Rattle.numbering.specs.declared.NumberFault.{NumberFault}
use Rattle.numbering.specs.declared.NumberFault.TheVariants.{Short, NoNumber}
use Rattle.numbering.proofs.Laws.{numbered_unique, stuck_excludes, stuck_unique, numbered_distinct, stated_numbering, stated_never_stuck}

module _ {A : Type 0} (start : ℤ) (draft : List (Option ℤ)) (old new : List ℤ) where
  pub lawful : (r : Result A NumberFault) → Answered start draft old new r → Lawful start draft new r
  lawful (Ok u) a = record {
    only = λ ids n. numbered_unique start draft (length draft) ids (take (length draft) new) n a.numbering;
    stuck = λ place before s. stuck_excludes start draft place before (take (length draft) new) s a.numbering;
    distinct = λ once. numbered_distinct start draft (take (length draft) new) once a.numbering;
    stable = λ ids all. numbered_unique start draft (length draft) (take (length draft) new) ids a.numbering (stated_numbering start draft ids all);
  }
  lawful (Err Short) a = record { only = λ _ _. refl; stuck = λ _ _ _. inr refl; distinct = λ _. tt; stable = λ _ _. refl }
  lawful (Err (NoNumber place)) a = record {
    only = λ ids n. absurd (stuck_excludes start draft place (take place new) ids a.stuck n);
    stuck = λ other before s. inl (ap NoNumber (stuck_unique start draft place other (take place new) before a.stuck s));
    distinct = λ _. tt;
    stable = λ ids all. absurd (stated_never_stuck start draft ids all place (take place new) a.stuck);
  }

-- where there is room, a refusal is not for want of it
pub not_short : (start : ℤ) (draft : List (Option ℤ)) (old new : List ℤ) (fault : NumberFault) → length draft ≤ length old → Refused start draft old new fault → fault ≡ Short → ⊥
not_short start draft old new Short room a e = let less = a.short in omega arith
not_short start draft old new (NoNumber place) room a e = let z : ◌≡◌ {A = ℕ} 0 1 = cc in omega arith
