-- The entries that an iterator has left, and those that it gave. Assumes nothing.
use Rattle.std.proofs.Common.{◌≡◌, ℕ, zero, suc, ◌+◌, ◌-◌, ◌<◌, ◌≤◌, List, [], ◌∷◌, length, get_or, take, drop, Some, None, Option, refl, sym, ap, ◌∙◌, subst, arith}
use Rattle.std.specs.List.{slice_get}
use Rattle.std.specs.Option.{option_map, MatchOption}
use Rattle.std.proofs.lemmas.List.{take_all, drop_all, drop_more, length-take, length-drop}
use Rattle.std.proofs.lemmas.Option.{slice_get-get_or}
use Rattle.partitions.specs.Fields.{PaperField, PaperSpec}
use Rattle.partitions.specs.Views.{paper_field}
use Rattle.partitions.specs.declared.field.UnboundPartitionField.{UnboundPartitionField}
use Rattle.records.specs.Left.{entries_left}

pub left_all : (plan : PaperSpec) (n : ℕ) → n ≡ length plan.fields → entries_left plan 0 n ≡ plan.fields
unfolding entries_left
left_all plan n e = take_all n plan.fields (omega arith)

pub left_end : (plan : PaperSpec) (i n : ℕ) → n ≤ i → entries_left plan i n ≡ []
unfolding entries_left
left_end plan i n le = drop_all i (take n plan.fields) (omega (arith, length-take n plan.fields))

-- what is left begins with the element at the place, or there is none
abbrev Begins : {X : Type 0} → List X → ℕ → ℕ → Option X → Type 0
Begins xs i n o = MatchOption o ((drop i (take n xs) ≡ []) × (drop (suc i) (take n xs) ≡ [])) (λ x. drop i (take n xs) ≡ x ∷ drop (suc i) (take n xs))

at_place : {X : Type 0} (xs : List X) (i n : ℕ) → i < n → Begins xs i n (slice_get xs i)
at_place xs i zero lt = absurd (omega arith)
at_place [] zero (suc n) lt = (refl, refl)
at_place [] (suc i) (suc n) lt = (refl, refl)
at_place (x ∷ xs) zero (suc n) lt = refl
at_place (x ∷ xs) (suc i) (suc n) lt = at_place xs i n (omega arith)

-- one call of `next`, by the places before and after it
abbrev pub Step : PaperSpec → ℕ → ℕ → ℕ → ℕ → Option UnboundPartitionField → Type 0
Step plan i n j m r = MatchOption r ((entries_left plan i n ≡ []) × (entries_left plan j m ≡ [])) (λ f. entries_left plan i n ≡ paper_field f ∷ entries_left plan j m)

module _ (plan : PaperSpec) (i n j m : ℕ) (end : m ≡ n) where
  pub ended : (r : Option UnboundPartitionField) → n - i ≡ 0 → j ≡ i → r ≡ None → Step plan i n j m r
  ended r none same e = subst (Step plan i n j m) (sym e) (left_end plan i n (omega arith), left_end plan j m (omega arith))

  pub stepped : (p : ℕ) (r : Option UnboundPartitionField) → 0 < n - i → p ≡ i → j ≡ i + 1 → option_map paper_field r ≡ slice_get plan.fields p → Step plan i n j m r
  unfolding entries_left
  stepped p r some here next e = at r (subst (Begins plan.fields i n) (sym (e ∙ ap (slice_get plan.fields) here)) (at_place plan.fields i n (omega arith)))
    where
      same : drop (suc i) (take n plan.fields) ≡ drop j (take m plan.fields)
      same = let q : suc i ≡ j = omega arith in λ k. drop (q k) (take (sym end k) plan.fields)

      at : (r : Option UnboundPartitionField) → Begins plan.fields i n (option_map paper_field r) → Step plan i n j m r
      at None b = (b.0, sym same ∙ b.1)
      at (Some f) b = b ∙ ap (λ fs. paper_field f ∷ fs) same

-- the next of the fields, of which the first k were given: then j were
pub record Next (fs : List PaperField) (k j : ℕ) (f : PaperField) (rest : List PaperField) : Type 0 where
  pub inside : k < length fs
  pub next : Some f ≡ slice_get fs k
  pub is : rest ≡ drop j fs

pub taken : (fs : List PaperField) (k j : ℕ) (f : PaperField) (rest : List PaperField) → j ≡ k + 1 → drop k fs ≡ f ∷ rest → Next fs k j f rest
taken fs k j f rest one e =
    let inside : k < length fs = omega (arith, ap length e, length-drop k fs) in
    let split : f ∷ rest ≡ get_or fs k f ∷ drop (k + 1) fs = sym e ∙ drop_more fs k f inside in
    record {
      inside = inside;
      next = ap (λ l. Some (get_or l 0 f)) split ∙ sym (slice_get-get_or fs k f inside);
      is = ap (drop 1) split ∙ ap (λ n. drop n fs) (sym one);
    }

pub all_taken : (fs : List PaperField) (k : ℕ) → drop k fs ≡ [] → length fs ≤ k
all_taken fs k e = omega (arith, ap length e, length-drop k fs)
