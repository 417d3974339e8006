-- Ids of which none repeats, and one more of them.
use Rattle.std.proofs.Common.{◌≡◌, ◌+◌, ◌<◌, ◌≤◌, false, List, [], ◌∷◌, ◌++◌, length, Result, Ok, Err, MatchResult, get_or, ℤ, pos, sym, ap, ◌∙◌, subst, ⊎_elim, arith}
use Rattle.std.proofs.lemmas.List.{get_or_append_left, get_or_default, get_or_push, length_push}
use Rattle.std.proofs.lemmas.Bool.{cases_lt}
use Rattle.std.proofs.lemmas.Bool.Decides.{not_from_Decides}
use Rattle.bounded.specs.declared.Full.{Full}
use Rattle.schemas.specs.Ids.{has, Distinct}
use Rattle.schemas.proofs.Identity.{has_decides}

pub distinct_none : (ids : List ℤ) → length ids ≡ 0 → Distinct ids
distinct_none ids e i j lt below f = omega arith

pub distinct_push : (ids : List ℤ) (id : ℤ) → Distinct ids → has ids id ≡ false → Distinct (ids ++ id ∷ [])
distinct_push ids id apart new i j lt below e = ⊎_elim inside last (cases_lt j (length ids))
  where
    n : j < length ids + 1
    n = subst (λ k. j < k) (length_push ids id) below

    inside : j < length ids → ⊥
    inside h = apart i j lt h (sym (get_or_append_left ids (id ∷ []) (pos 0) i (omega arith)) ∙ e ∙ get_or_append_left ids (id ∷ []) (pos 0) j h)

    last : length ids ≤ j → ⊥
    last h =
        let here : i < length ids = omega (arith, n) in
        let q : get_or ids i (pos 0) ≡ id = sym (get_or_append_left ids (id ∷ []) (pos 0) i here) ∙ e ∙ get_or_push ids id (pos 0) j (omega (arith, n)) in
        not_from_Decides (has ids id) (has_decides ids id) new (i, here, λ d. get_or_default ids i d (pos 0) here ∙ q)

-- the ids as a test saw them, and after a push, which may find no room
pub distinct_pushed : (ids seen after : List ℤ) (id : ℤ) (r : Result (Unit {0}) Full) → Distinct ids → seen ≡ ids → false ≡ has seen id
    → MatchResult r (λ _. (length ids < 64) × (after ≡ ids ++ id ∷ [])) (λ _. (length ids ≡ 64) × (after ≡ ids)) → Distinct after
distinct_pushed ids seen after id (Ok u) apart s new p = subst Distinct (sym p.1) (distinct_push ids id apart (ap (λ xs. has xs id) (sym s) ∙ sym new))
distinct_pushed ids seen after id (Err f) apart s new p = subst Distinct (sym p.1) apart
