-- A batch, entry by entry, under any rules of an add. Assumes nothing.
use Rattle.std.proofs.Common.{◌≡◌, ℕ, ◌+◌, ◌<◌, List, [], ◌∷◌, ◌++◌, length, get_or, take, pos, Some, None, Option, sym, refl, ap, ◌∙◌, subst, inr, ⊎_elim, arith}
use Rattle.std.proofs.lemmas.List.{flat_map_more, take_more, take_at, get_or_read, get_or-map, length-map}
use Rattle.std.proofs.lemmas.Bool.{cases_lt}
use Rattle.std.specs.Option.{option_to_list}
use Rattle.faults.specs.Told.{Told}
use Rattle.faults.specs.Rules.{Rule, AllKept, FirstBroken}
use Rattle.partitions.specs.BatchFaults.{cause_told, batch_told}
use Rattle.partitions.specs.Batches.{entry, entries, given, rules_unless_none, entry_rules, KeptAt, RefusedAt}
use Rattle.partitions.specs.Fields.{PaperField}
use Rattle.partitions.specs.declared.batch.BatchField.{BatchField}
use Rattle.partitions.specs.declared.batch.BatchCause.{BatchCause}
use Rattle.transforms.specs.declared.transform.Transform.TheVariants.{Identity}
use Rattle.std.proofs.lemmas.Option.{none-some}
use Rattle.faults.proofs.Firsts.{keeps, same_told}

-- what stands past the end of a batch is never looked at
abbrev pub past_end : BatchField
past_end = record { source_id = pos 0; field_id = None; name = record { start = 0; length = 0 }; transform = Identity }

module _ (rulesOf : List PaperField → PaperField → List Rule) where
  -- a field that is there has the rules of an add
  module _ (fs : List PaperField) (e : Option PaperField) (f : PaperField) (is : e ≡ Some f) (n : ℕ) where
    pub there_broken : (t : Told) → FirstBroken (rulesOf fs f) t → FirstBroken (rules_unless_none rulesOf n fs e) t
    there_broken t b = subst (λ (o : Option PaperField). FirstBroken (rules_unless_none rulesOf n fs o) t) (sym is) (inr (keeps n _ (λ m. none-some f (sym m)), b))

    pub there_kept : AllKept (rulesOf fs f) → AllKept (rules_unless_none rulesOf n fs e)
    there_kept k = subst (λ (o : Option PaperField). AllKept (rules_unless_none rulesOf n fs o)) (sym is) (keeps n _ (λ m. none-some f (sym m)), k)

    pub there_given : (after : List PaperField) → after ≡ fs ++ f ∷ [] → after ≡ fs ++ option_to_list e
    there_given after a = a ∙ ap (λ (o : Option PaperField). fs ++ option_to_list o) (sym is)

  -- the entries before i are added to fs
  pub record Sofar (fs : List PaperField) (es : List (Option PaperField)) (i : ℕ) (now : List PaperField) : Type 0 where
    pub kept : (k : ℕ) → k < i → KeptAt rulesOf fs es k
    pub fields : now ≡ fs ++ given (take i es)

  module _ (fs : List PaperField) (es : List (Option PaperField)) where
    module _ (i : ℕ) (now : List PaperField) (s : Sofar fs es i now) where
      -- e stands at i
      module _ (e : Option PaperField) (l : i < length es) (at : e ≡ get_or es i e) where
        pub one_added : (after : List PaperField) → AllKept (entry_rules rulesOf now e) → after ≡ now ++ option_to_list e → Sofar fs es (i + 1) after
        one_added after k a = record {
          kept = λ j h. ⊎_elim (s.kept j)
              (λ b d. let q : i ≡ j = omega arith in
              subst (λ (m : ℕ). AllKept (entry_rules rulesOf (fs ++ given (take m es)) (get_or es m d))) q
              (subst (λ (ns : List PaperField). AllKept (entry_rules rulesOf ns (get_or es i d))) s.fields (subst (λ (o : Option PaperField). AllKept (entry_rules rulesOf now o)) (get_or_read es i e l at d) k)))
              (cases_lt j i);
          fields = a ∙ ap (λ ns. ns ++ option_to_list e) s.fields ∙ flat_map_more option_to_list fs (take i es) e ∙ ap (λ os. fs ++ given (os)) (ap (λ (o : Option PaperField). take i es ++ o ∷ []) at ∙ sym (take_more es i e l));
        }

        pub refused_at : (t : Told) → FirstBroken (entry_rules rulesOf now e) t → RefusedAt rulesOf fs es i t
        refused_at t b = record {
          inside = l;
          before = s.kept;
          broken = λ d. subst (λ (ns : List PaperField). FirstBroken (entry_rules rulesOf ns (get_or es i d)) t) s.fields (subst (λ (o : Option PaperField). FirstBroken (entry_rules rulesOf now o) t) (get_or_read es i e l at d) b);
        }

      -- the fields that were there are the front
      pub front : (n : ℕ) → length fs ≡ n → take n now ≡ fs
      front n q = ap (take n) s.fields ∙ take_at fs (given (take i es)) n q

  -- the entries of a batch
  module _ (fs : List PaperField) (area : List ℕ) (bs : List BatchField) (i : ℕ) (now : List PaperField) (s : Sofar fs (entries area bs) i now) where
    module _ (l : i < length bs) where
      abbrev here : Option PaperField
      here = entry area (get_or bs i past_end)

      inside : i < length (entries area bs)
      inside = subst (λ n. i < n) (sym (length-map bs (entry area))) l

      stands : here ≡ get_or (entries area bs) i here
      stands = sym (get_or-map (entry area) bs i past_end here l)

      pub next_added : (after : List PaperField) → AllKept (entry_rules rulesOf now here) × (after ≡ now ++ option_to_list here) → Sofar fs (entries area bs) (i + 1) after
      next_added after a = one_added fs (entries area bs) i now s here inside stands after a.0 a.1

      -- the first n fields are left
      pub put_back : (cause : BatchCause) (after left : List PaperField) (n : ℕ) → FirstBroken (entry_rules rulesOf now here) (cause_told cause) × (after ≡ now) → n ≡ length fs → left ≡ take n after
          → RefusedAt rulesOf fs (entries area bs) i (batch_told (record { index = i; cause = cause })) × (left ≡ fs)
      put_back cause after left n b q e =
          let t = batch_told (record { index = i; cause = cause }) in
          (refused_at fs (entries area bs) i now s here inside stands t (same_told (cause_told cause) t refl refl (entry_rules rulesOf now here) b.0), e ∙ ap (take n) b.1 ∙ front fs (entries area bs) i now s n (sym q))
