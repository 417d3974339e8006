-- Fields that keep the rules among themselves, as a batch: what the columns admit is accepted. Assumes nothing.
use Rattle.std.proofs.Common.{◌≡◌, ℕ, ◌<◌, List, [], ◌∷◌, ◌++◌, map, length, get_or, take, Some, Option, sym, refl, ap, ◌∙◌, subst, arith}
use Rattle.std.proofs.ByRecursion.{All-get_or}
use Rattle.std.proofs.lemmas.List.{take-map, get_or-map, length-map}
use Rattle.std.specs.List.{AllByRecursion}
use Rattle.faults.specs.Told.{Told}
use Rattle.faults.specs.Rules.{Rule, AllKept, FirstBroken}
use Rattle.names.specs.NameRules.{name_rules}
use Rattle.schemas.specs.Columns.{Columns}
use Rattle.partitions.specs.AddRules.{add_rules, used_rules, last_rules}
use Rattle.partitions.specs.Batches.{given}
use Rattle.partitions.specs.Batches.{entry_rules, EachKept, RefusedAt}
use Rattle.partitions.specs.Buildable.{Buildable}
use Rattle.partitions.specs.Fields.{PaperField}
use Rattle.partitions.proofs.Batching.{there_kept, there_broken}
use Rattle.partitions.proofs.Builds.{built}
use Rattle.faults.proofs.Firsts.{kept_join, kept_front, kept_back, broken_front, broken_back}
use Rattle.drafts.specs.BoundAdds.{NotAdmittedAt}
use Rattle.drafts.specs.Laws.{BuildableAndAdmittedIsAccepted}
use Rattle.drafts.specs.Paper.{with_fields}
use Rattle.drafts.specs.SourceRules.{source_rules, bound_rules, Admitted}
use Rattle.drafts.proofs.Admitting.{some_field}

-- an unbound add that the columns admit is a bound add, and one that they do not is refused by the source's rules
module _ (c : Columns) (fs : List PaperField) (f : PaperField) (k : AllKept (add_rules fs f)) where
  abbrev asked : List Rule
  asked = name_rules f.name ++ used_rules fs f

  abbrev last : List Rule
  last = last_rules fs f

  with_source : Admitted c f → AllKept (bound_rules c fs f)
  with_source a = kept_join asked (source_rules c f ++ last) (kept_front asked last k) (kept_join (source_rules c f) last a (kept_back asked last k))

  source_broken : (t : Told) → FirstBroken (source_rules c f) t → FirstBroken (bound_rules c fs f) t
  source_broken t b = broken_back t asked (source_rules c f ++ last) (kept_front asked last k) (broken_front t (source_rules c f) last b)

pub given_some : (fs : List PaperField) → given (map Some fs) ≡ fs
given_some [] = refl
given_some (f ∷ fs) = ap (λ (gs : List PaperField). f ∷ gs) (given_some fs)

given_front : (fs : List PaperField) (k : ℕ) → given (take k (map Some fs)) ≡ take k fs
given_front fs k = ap given (take-map Some k fs) ∙ given_some (take k fs)

module _ (c : Columns) (fs : List PaperField) (b : Buildable fs) where
  -- the entry at k stands for the field there
  module _ (k : ℕ) (l : k < length fs) where
    abbrev here : PaperField
    here = get_or fs k some_field

    entry_is : (d : Option PaperField) → get_or (map Some fs) k d ≡ Some here
    entry_is d = get_or-map Some fs k some_field d l

    kept_here : Admitted c here → (d : Option PaperField) → AllKept (entry_rules (bound_rules c) (given (take k (map Some fs))) (get_or (map Some fs) k d))
    kept_here a d =
        subst (λ (gs : List PaperField). AllKept (entry_rules (bound_rules c) gs (get_or (map Some fs) k d))) (sym (given_front fs k))
        (there_kept (bound_rules c) (take k fs) (get_or (map Some fs) k d) here (entry_is d) 9 (with_source c (take k fs) here (built fs b k some_field l) a))

    broken_here : (t : Told) → FirstBroken (source_rules c here) t → (d : Option PaperField) → FirstBroken (entry_rules (bound_rules c) (given (take k (map Some fs))) (get_or (map Some fs) k d)) t
    broken_here t n d =
        subst (λ (gs : List PaperField). FirstBroken (entry_rules (bound_rules c) gs (get_or (map Some fs) k d)) t) (sym (given_front fs k))
        (there_broken (bound_rules c) (take k fs) (get_or (map Some fs) k d) here (entry_is d) 9 t (source_broken c (take k fs) here (built fs b k some_field l) t n))

  inside : (k : ℕ) → k < length (map Some fs) → k < length fs
  inside k l = subst (λ n. k < n) (length-map fs Some) l

  pub each_kept : AllByRecursion (Admitted c) fs → EachKept (bound_rules c) [] (map Some fs)
  each_kept a k l = kept_here k (inside k l) (All-get_or (Admitted c) fs k some_field (inside k l) a)

  pub refused_first : (i : ℕ) (t : Told) → NotAdmittedAt c fs i t → RefusedAt (bound_rules c) [] (map Some fs) i t
  refused_first i t n = record {
    inside = subst (λ m. i < m) (sym (length-map fs Some)) n.inside;
    before = λ k l. kept_here k (omega (arith, n.inside)) (n.before k some_field l);
    broken = broken_here i n.inside t (n.broken some_field);
  }

pub accepted : BuildableAndAdmittedIsAccepted
accepted c p fs none b a = (
  subst (λ (gs : List PaperField). EachKept (bound_rules c) gs (map Some fs)) (sym none) (each_kept c fs b a),
  ap (λ (gs : List PaperField). with_fields gs p) (sym (ap (λ (gs : List PaperField). gs ++ given (map Some fs)) none ∙ given_some fs)),
)
