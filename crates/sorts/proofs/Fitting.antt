-- Fields whose rules are kept fit every schema that shows the same columns.
use Rattle.std.proofs.lemmas.Bool.{true_from_ne_false}
use Rattle.std.proofs.Common.{◌≡◌, true, false, List, [], ◌∷◌, is_some, IsSomeAnd, Some, None, Option, Result, refl, subst}
use Rattle.std.specs.List.{AllByRecursion}
use Rattle.faults.specs.Rules.{AllKept}
use Rattle.faults.proofs.Firsts.{kept_front, kept_back}
use Rattle.transforms.specs.Results.{result_of}
use Rattle.schemas.specs.declared.schema.Column.{Column}
use Rattle.schemas.specs.Columns.{Columns, Same, is_primitive}
use Rattle.schemas.proofs.Lookups.{same_columns}
use Rattle.sorts.specs.declared.sort.SortField.{SortField}
use Rattle.sorts.specs.declared.sort.SortFault.{SortFault}
use Rattle.sorts.specs.Drafts.{Draft}
use Rattle.sorts.specs.Promises.{Fits, SameAnswerOnEverySchemaThatShowsTheSame}
use Rattle.sorts.specs.SortRules.{field_rules, each_field_rules, build_rules, Answers}

not_none : {X : Type 0} (o : Option X) → (o ≡ None → ⊥) → is_some o ≡ true
not_none None n = absurd (n refl)
not_none (Some x) n = refl

by_source : (c : Columns) (field : SortField) (o : Option Column) → c.by_id field.source_id ≡ o
    → (o ≡ None → ⊥) → (IsSomeAnd o (λ source. is_primitive source.field_type ≡ false) → ⊥) → (IsSomeAnd o (λ source. result_of field.transform source.field_type ≡ None) → ⊥)
    → Fits c field
by_source c field None e known primitive fit = absurd (known refl)
by_source c field (Some source) e known primitive fit =
    record { source = source; found = e; primitive = true_from_ne_false _ primitive; result = not_none _ fit }

fits : (c : Columns) (field : SortField) → AllKept (field_rules c field) → Fits c field
fits c field k = by_source c field (c.by_id field.source_id) refl (k.0 None) (k.1.0 None) (k.1.1.0 None)

all_fit : (c : Columns) (fields : List SortField) → AllKept (each_field_rules c fields) → AllByRecursion (Fits c) fields
all_fit c [] k = tt
all_fit c (field ∷ fields) k = let own = kept_front (field_rules c field) (each_field_rules c fields) k in let rest = kept_back (field_rules c field) (each_field_rules c fields) k in (fits c field own, all_fit c fields rest)

pub fit_on_every : (c : Columns) (fields : List SortField) → AllKept (each_field_rules c fields) → (d : Columns) → Same c d → AllByRecursion (Fits d) fields
fit_on_every c fields k d s = subst (λ e. AllByRecursion (Fits e) fields) (same_columns c d s) (all_fit c fields k)

pub same_answer : (c : Columns) (draft : Draft) (r : Result (Unit {0}) SortFault) → Answers (build_rules c draft.id draft.fields) r → SameAnswerOnEverySchemaThatShowsTheSame c draft r
same_answer c draft r a d s = subst (λ e. Answers (build_rules e draft.id draft.fields) r) (same_columns c d s) a
