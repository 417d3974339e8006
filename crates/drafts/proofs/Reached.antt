-- What holds of the fields of every draft that calls lead to: the columns of a suiting schema admit them. Assumes nothing.
use Rattle.std.proofs.Common.{◌≡◌, ℕ, true, false, List, [], ◌∷◌, ◌++◌, get_or, take, is_some, IsSomeAnd, Some, None, Option, sym, refl, ap, ◌∙◌, subst}
use Rattle.std.proofs.ByRecursion.{All-append, All-push, All-from_get_or, All-weaker}
use Rattle.std.proofs.lemmas.Bool.{false≢true, true_from_ne_false, false_from_ne_true}
use Rattle.std.specs.Option.{option_to_list}
use Rattle.std.specs.List.{AllByRecursion}
use Rattle.faults.specs.Rules.{Rule, AllKept}
use Rattle.names.specs.NameRules.{name_rules}
use Rattle.transforms.specs.Results.{result_of}
use Rattle.transforms.specs.declared.datatypes.«Type».{«Type» as ColumnType}
use Rattle.transforms.specs.declared.datatypes.«Type».TheVariants.{Primitive, Struct, List as Listed, Map}
use Rattle.transforms.specs.declared.transform.Transform.{Transform}
use Rattle.transforms.specs.declared.transform.Transform.TheVariants.{Void}
use Rattle.schemas.specs.Columns.{Columns, is_primitive}
use Rattle.schemas.specs.declared.schema.Column.{Column}
use Rattle.partitions.specs.AddRules.{used_rules, last_rules}
use Rattle.partitions.specs.Batches.{given}
use Rattle.partitions.specs.Batches.{rules_unless_none, EachKept}
use Rattle.partitions.specs.Fields.{PaperField}
use Rattle.faults.proofs.Firsts.{kept_front, kept_back}
use Rattle.drafts.specs.BoundAdds.{on_named, named_rules}
use Rattle.drafts.specs.Calls.{Call, set_spec_id, set_start, add_field, add_named, add_batch, Answer, Changes, ChangesAll, Step, RanFrom, Suits}
use Rattle.drafts.specs.Laws.{Fits, made_with, AdmittedOnEverySuitingSchema}
use Rattle.drafts.specs.Paper.{Paper, blank_paper, with_spec_id, with_start, with_fields}
use Rattle.drafts.specs.SourceRules.{source_rules, bound_rules, Admitted}
use Rattle.drafts.proofs.Columned.{step_by_columns}

-- a field that keeps every rule is admitted
pub admitted : (c : Columns) (fs : List PaperField) (f : PaperField) → AllKept (bound_rules c fs f) → Admitted c f
admitted c fs f k = kept_front (source_rules c f) (last_rules fs f) (kept_back (name_rules f.name ++ used_rules fs f) (source_rules c f ++ last_rules fs f) k)

-- and so is one that may be missing
entry_admitted : (c : Columns) (n : ℕ) (fs : List PaperField) (e : Option PaperField) → AllKept (rules_unless_none (bound_rules c) n fs e) → AllByRecursion (Admitted c) (option_to_list e)
entry_admitted c n fs None k = tt
entry_admitted c n fs (Some f) k = (admitted c fs f k.1, tt)

all_given : (P : PaperField → Type 0) (es : List (Option PaperField)) → AllByRecursion (λ e. AllByRecursion P (option_to_list e)) es → AllByRecursion P (given es)
all_given P [] a = tt
all_given P (e ∷ es) a = All-append P (option_to_list e) (given es) a.0 (all_given P es a.1)

entries_admitted : (c : Columns) (fs : List PaperField) (es : List (Option PaperField)) → EachKept (bound_rules c) fs es → AllByRecursion (Admitted c) (given es)
entries_admitted c fs es k =
    all_given (Admitted c) es (All-from_get_or (λ e. AllByRecursion (Admitted c) (option_to_list e)) es None (λ i l. entry_admitted c 9 (fs ++ given (take i es)) (get_or es i None) (k i l None)))

module _ (c : Columns) where
  abbrev Fine : Paper → Type 0
  Fine p = AllByRecursion (Admitted c) p.fields

  -- accepted or refused, the fields are fine
  changed : (rules : List Rule) (p next q : Paper) (answer : Answer) → (AllKept rules → Fine next) → Fine p → Changes rules p next answer q → Fine q
  changed rules p next q None n h a = subst Fine (sym a.1) (n a.0)
  changed rules p next q (Some t) n h a = subst Fine (sym a.2) h

  changed_all : (es : List (Option PaperField)) (p q : Paper) (answer : Answer) → Fine p → ChangesAll c es p answer q → Fine q
  changed_all es p q None h a = subst Fine (sym a.1) (All-append (Admitted c) p.fields (given es) h (entries_admitted c p.fields es a.0))
  changed_all es p q (Some t) h a = subst Fine (sym a.1) h

  own_step : (call : Call) (p q : Paper) (answer : Answer) → Fine p → Step p (made_with c call) answer q → Fine q
  own_step (set_spec_id id) p q answer h s = changed [] p (with_spec_id id p) q answer (λ k. h) h s
  own_step (set_start n) p q answer h s = changed [] p (with_start n p) q answer (λ k. h) h s
  own_step (add_field d f) p q answer h s =
      changed (bound_rules c p.fields f) p (with_fields (p.fields ++ f ∷ []) p) q answer (λ k. All-push (Admitted c) p.fields f h (admitted c p.fields f k)) h s
  own_step (add_named d source name transform) p q answer h s =
      let e = on_named c source name transform in
      changed (named_rules c p.fields e) p (with_fields (p.fields ++ option_to_list e) p) q answer (λ k. All-append (Admitted c) p.fields (option_to_list e) h (entry_admitted c 30 p.fields e k)) h s
  own_step (add_batch d es) p q answer h s = changed_all es p q answer h s

  run : (calls : List Call) (answers : List Answer) (p q : Paper) → Suits c calls → Fine p → RanFrom p calls answers q → Fine q
  run [] [] p q s h r = subst Fine r h
  run [] (answer ∷ answers) p q s h r = absurd r
  run (call ∷ calls) [] p q s h r = absurd r
  run (call ∷ calls) (answer ∷ answers) p q s h r =
      run calls answers r.0 q s.1 (own_step call p r.0 answer h (step_by_columns c p r.0 call answer s.0 r.1.0)) r.1.1

not_none : {X : Type 0} (o : Option X) → (o ≡ None → ⊥) → is_some o ≡ true
not_none None n = absurd (n refl)
not_none (Some x) n = refl

-- void has a result for every type, and every other transform where the rules are kept
void_result : (s : ColumnType) → is_some (result_of Void s) ≡ true
void_result (Primitive p) = refl
void_result (Struct n) = refl
void_result (Listed n) = refl
void_result (Map n) = refl

result : (t : Transform) (s : ColumnType) → ((t ≡ Void → ⊥) → result_of t s ≡ None → ⊥) → is_some (result_of t s) ≡ true
result t s n = not_none (result_of t s) (λ none. n (λ v. false≢true (ap is_some (sym none ∙ ap (λ (u : Transform). result_of u s) v) ∙ void_result s)) none)

by_source : (c : Columns) (f : PaperField) (o : Option Column) → c.by_id f.source ≡ o
    → (o ≡ None → ⊥)
    → ((f.transform ≡ Void → ⊥) × IsSomeAnd o (λ source. is_primitive source.field_type ≡ false) → ⊥)
    → ((f.transform ≡ Void → ⊥) × IsSomeAnd o (λ source. source.is_marked ≡ true) → ⊥)
    → ((f.transform ≡ Void → ⊥) × IsSomeAnd o (λ source. result_of f.transform source.field_type ≡ None) → ⊥)
    → Fits c f
by_source c f None e known primitive unmarked fit = absurd (known refl)
by_source c f (Some source) e known primitive unmarked fit = record {
  source = source;
  found = e;
  result = result f.transform source.field_type (λ v n. fit (v, n));
  primitive = λ v. true_from_ne_false _ (λ n. primitive (v, n));
  unmarked = λ v. false_from_ne_true _ (λ n. unmarked (v, n));
}

pub fits : (c : Columns) (f : PaperField) → Admitted c f → Fits c f
fits c f k = by_source c f (c.by_id f.source) refl (k.1.1.0 None) (k.1.1.1.0 None) (k.1.1.1.1.0 None) (k.1.1.1.1.1.0 None)

pub admitted_on_every : AdmittedOnEverySuitingSchema
admitted_on_every p calls answers r c s =
    let a = run c calls answers blank_paper p s tt r in
    (a, All-weaker (Admitted c) (Fits c) (fits c) p.fields a)
