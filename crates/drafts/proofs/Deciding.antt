-- A call has one answer: ordered rules have one first broken rule, at one value. Assumes nothing.
use Rattle.std.proofs.Common.{◌≡◌, ℕ, ◌<◌, List, [], ◌∷◌, ◌++◌, get_or, take, IsSomeAnd, Some, None, Option, sym, refl, ap, ◌∙◌, subst, inl, inr, ⊎_elim, arith}
use Rattle.std.proofs.lemmas.Bool.{cases_order}
use Rattle.faults.specs.Told.{Told}
use Rattle.faults.specs.Rules.{Rule, rule, rule_at, FirstBroken}
use Rattle.faults.proofs.Firsts.{first_number}
use Rattle.names.specs.WellFormed.{Front}
use Rattle.schemas.specs.Columns.{Columns}
use Rattle.partitions.specs.Batches.{given}
use Rattle.partitions.specs.Batches.{rules_unless_none, entry_rules, RefusedAt}
use Rattle.partitions.specs.Fields.{PaperField, Named, AlikeOn}
use Rattle.partitions.specs.Places.{FirstAt}
use Rattle.faults.proofs.Firsts.{not_both}
use Rattle.drafts.specs.BoundAdds.{on_named, named_rules}
use Rattle.drafts.specs.Calls.{Call, set_spec_id, set_start, add_field, add_named, add_batch, Answer, Changes, ChangesAll, RanFrom}
use Rattle.drafts.specs.Laws.{SameAnswer, SameAnswers, OneAnswer, OneRun}
use Rattle.drafts.specs.Paper.{Paper, blank_paper, with_spec_id, with_start, with_fields}
use Rattle.drafts.specs.SourceRules.{bound_rules}
use Rattle.drafts.proofs.Admitting.{some_field}

-- a rule that is broken at one value at most
abbrev AtOne : Rule → Type 0
AtOne r = (u v : Option ℕ) → r.Broken u → r.Broken v → u ≡ v

abbrev EachAtOne : List Rule → Type 0
EachAtOne [] = Unit {0}
EachAtOne (r ∷ rules) = AtOne r × EachAtOne rules

one : (n : ℕ) (P : Type 0) → AtOne (rule n P)
one n P None None a b = refl
one n P None (Some v) a b = absurd b
one n P (Some u) v a b = absurd a

one_at : (n : ℕ) (Q : ℕ → Type 0) → ((i j : ℕ) → Q i → Q j → i ≡ j) → AtOne (rule_at n Q)
one_at n Q same None v a b = absurd a
one_at n Q same (Some u) None a b = absurd b
one_at n Q same (Some u) (Some v) a b = ap Some (same u v a b)

-- what excludes a lesser place holds at one place
least : (Q : ℕ → Type 0) → ((i j : ℕ) → i < j → Q i → Q j → ⊥) → (i j : ℕ) → Q i → Q j → i ≡ j
least Q none i j a b = ⊎_elim (λ e. e) (λ o. ⊎_elim (λ l. absurd (none i j l a b)) (λ l. absurd (none j i l b a)) o) (cases_order i j)

one_front : (bs : List ℕ) (i j : ℕ) → Front bs i → Front bs j → i ≡ j
one_front bs = least (Front bs) (λ i j l a b. a.longest j l (omega (arith, b.short)) b.good)

one_first : (P : PaperField → Type 0) (fs : List PaperField) (i j : ℕ) → FirstAt P fs i → FirstAt P fs j → i ≡ j
one_first P fs = least (FirstAt P fs) (λ i j l a b. b.before i some_field l (a.here some_field))

bound_at_one : (c : Columns) (fs : List PaperField) (f : PaperField) → EachAtOne (bound_rules c fs f)
bound_at_one c fs f = (
  one 1 _,
  (
    one 2 _,
    (
      one_at 3 _ (one_front f.name),
      (
        one_at 20 _ (one_first (Named f.name) fs),
        (
          one_at 21 _ (one_first (AlikeOn f.source f.transform) fs),
          (one 22 _, (one 23 _, (one 24 _, (one 25 _, (one 33 _, (one 26 _, (one 27 _, (one 28 _, tt)))))))),
        ),
      ),
    ),
  ),
)

entry_at_one : (c : Columns) (n : ℕ) (fs : List PaperField) (e : Option PaperField) → EachAtOne (rules_unless_none (bound_rules c) n fs e)
entry_at_one c n fs None = (one n _, tt)
entry_at_one c n fs (Some f) = (one n _, bound_at_one c fs f)

first_value : (rules : List Rule) (t u : Told) → EachAtOne rules → FirstBroken rules t → FirstBroken rules u → t.value ≡ u.value
first_value [] t u o a b = absurd a
first_value (r ∷ rules) t u o (inl a) (inl b) = o.0 t.value u.value a.1 b.1
first_value (r ∷ rules) t u o (inl a) (inr b) = absurd (b.0 t.value a.1)
first_value (r ∷ rules) t u o (inr a) (inl b) = absurd (a.0 u.value b.1)
first_value (r ∷ rules) t u o (inr a) (inr b) = first_value rules t u o.1 a.1 b.1

one_change : (rules : List Rule) → EachAtOne rules → (p next : Paper) (a b : Answer) (q r : Paper) → Changes rules p next a q → Changes rules p next b r → (q ≡ r) × SameAnswer a b
one_change rules o p next None None q r x y = (x.1 ∙ sym y.1, tt)
one_change rules o p next None (Some u) q r x y = absurd (not_both u rules x.0 y.0)
one_change rules o p next (Some t) None q r x y = absurd (not_both t rules y.0 x.0)
one_change rules o p next (Some t) (Some u) q r x y = (x.2 ∙ sym y.2, (first_number rules t u x.0 y.0, first_value rules t u o x.0 y.0, x.1 ∙ sym y.1))

-- a batch is refused at one entry
module _ (c : Columns) (fs : List PaperField) (es : List (Option PaperField)) where
  abbrev rules_at : ℕ → List Rule
  rules_at i = entry_rules (bound_rules c) (fs ++ given (take i es)) (get_or es i None)

  not_before : (t u : Told) (i j : ℕ) → i < j → RefusedAt (bound_rules c) fs es i t → RefusedAt (bound_rules c) fs es j u → ⊥
  not_before t u i j l a b = not_both t (rules_at i) (b.before i l None) (a.broken None)

  one_place : (t u : Told) (i j : ℕ) → RefusedAt (bound_rules c) fs es i t → RefusedAt (bound_rules c) fs es j u → i ≡ j
  one_place t u i j a b = ⊎_elim (λ e. e) (λ o. ⊎_elim (λ l. absurd (not_before t u i j l a b)) (λ l. absurd (not_before u t j i l b a)) o) (cases_order i j)

  at_one_place : (t u : Told) (i : ℕ) → RefusedAt (bound_rules c) fs es i t → RefusedAt (bound_rules c) fs es i u → (t.number ≡ u.number) × (t.value ≡ u.value)
  at_one_place t u i a b =
      (first_number (rules_at i) t u (a.broken None) (b.broken None), first_value (rules_at i) t u (entry_at_one c 9 (fs ++ given (take i es)) (get_or es i None)) (a.broken None) (b.broken None))

  one_refusal : (t u : Told) (x y : Option ℕ) → IsSomeAnd x (λ i. RefusedAt (bound_rules c) fs es i t) → IsSomeAnd y (λ i. RefusedAt (bound_rules c) fs es i u) → (t.number ≡ u.number) × (t.value ≡ u.value) × (x ≡ y)
  one_refusal t u None y a b = absurd a
  one_refusal t u (Some i) None a b = absurd b
  one_refusal t u (Some i) (Some j) a b =
      let e = one_place t u i j a b in
      let s = at_one_place t u j (subst (λ (k : ℕ). RefusedAt (bound_rules c) fs es k t) e a) b in
      (s.0, s.1, ap Some e)

one_batch : (c : Columns) (es : List (Option PaperField)) (p : Paper) (a b : Answer) (q r : Paper) → ChangesAll c es p a q → ChangesAll c es p b r → (q ≡ r) × SameAnswer a b
one_batch c es p None None q r x y = (x.1 ∙ sym y.1, tt)
one_batch c es p None (Some u) q r x y = absurd (kept_refused u u.index y.0)
  where
    kept_refused : (t : Told) (i : Option ℕ) → IsSomeAnd i (λ k. RefusedAt (bound_rules c) p.fields es k t) → ⊥
    kept_refused t None w = w
    kept_refused t (Some k) w = not_both t (rules_at c p.fields es k) (x.0 k w.inside None) (w.broken None)
one_batch c es p (Some t) None q r x y = absurd (kept_refused t t.index x.0)
  where
    kept_refused : (t : Told) (i : Option ℕ) → IsSomeAnd i (λ k. RefusedAt (bound_rules c) p.fields es k t) → ⊥
    kept_refused t None w = w
    kept_refused t (Some k) w = not_both t (rules_at c p.fields es k) (y.0 k w.inside None) (w.broken None)
one_batch c es p (Some t) (Some u) q r x y = (x.1 ∙ sym y.1, one_refusal c p.fields es t u t.index u.index x.0 y.0)

pub one_answer : OneAnswer
one_answer p (set_spec_id id) a b q r x y = one_change [] tt p (with_spec_id id p) a b q r x y
one_answer p (set_start n) a b q r x y = one_change [] tt p (with_start n p) a b q r x y
one_answer p (add_field c f) a b q r x y = one_change (bound_rules c p.fields f) (bound_at_one c p.fields f) p (with_fields (p.fields ++ f ∷ []) p) a b q r x y
one_answer p (add_named c source name transform) a b q r x y =
    let e = on_named c source name transform in
    one_change (named_rules c p.fields e) (entry_at_one c 30 p.fields e) p _ a b q r x y
one_answer p (add_batch c es) a b q r x y = one_batch c es p a b q r x y

one_run_from : (calls : List Call) (answers others : List Answer) (m p q : Paper) → RanFrom m calls answers p → RanFrom m calls others q → (p ≡ q) × SameAnswers answers others
one_run_from [] [] [] m p q x y = (sym x ∙ y, tt)
one_run_from [] [] (b ∷ others) m p q x y = absurd y
one_run_from [] (a ∷ answers) others m p q x y = absurd x
one_run_from (call ∷ calls) [] others m p q x y = absurd x
one_run_from (call ∷ calls) (a ∷ answers) [] m p q x y = absurd y
one_run_from (call ∷ calls) (a ∷ answers) (b ∷ others) m p q x y =
    let s = one_answer m call a b x.0 y.0 x.1.0 y.1.0 in
    let t = one_run_from calls answers others x.0 p q x.1.1 (subst (λ (o : Paper). RanFrom o calls others q) (sym s.0) y.1.1) in
    (t.0, (s.1, t.1))

pub one_run : OneRun
one_run calls answers others p q x y = one_run_from calls answers others blank_paper p q x y
