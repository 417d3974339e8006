-- The fields of a list that keeps the rules. Assumes nothing.
use Rattle.std.proofs.Common.{◌≡◌, ℕ, ◌<◌, ◌≤◌, List, [], ◌∷◌, ◌++◌, length, take, Result, Ok, Err, MatchResult, sym, ap, ◌∙◌, subst, arith}
use Rattle.std.proofs.lemmas.List.{length-map, take-map, map_push}
use Rattle.bounded.specs.declared.Full.{Full}
use Rattle.faults.specs.Rules.{AllKept}
use Rattle.names.specs.NameBytes.{name_bytes}
use Rattle.partitions.specs.AddRules.{add_rules}
use Rattle.partitions.specs.Buildable.{Buildable}
use Rattle.partitions.specs.Fields.{PaperField, field_of}
use Rattle.partitions.specs.Listed.{listed}
use Rattle.partitions.specs.Views.{paper_field, papers}
use Rattle.partitions.specs.declared.field.UnboundPartitionField.{UnboundPartitionField}
use Rattle.partitions.specs.declared.fields.FieldList.{FieldList}
use Rattle.partitions.proofs.Builds.{buildable_push}
use Rattle.partitions.proofs.Papers.{good_names}

pub length_listed : (l : FieldList) → length (listed l) ≡ length l.fields
length_listed l = length-map l.fields paper_field

pub buildable_listed : (l : FieldList) → Buildable (listed l)
buildable_listed l =
    let size = length_listed l in
    record { few = omega (arith, l.few); good = good_names (l.fields); names = l.names; sources = l.sources; ids = l.ids }

-- as many on paper as in the list
pub few_of : (fs : List UnboundPartitionField) → length (papers fs) ≤ 64 → length fs ≤ 64
few_of fs h = let size = length-map fs paper_field in omega (arith, h)

pub papers_take : (n : ℕ) (xs ys : List UnboundPartitionField) → ys ≡ take n xs → papers ys ≡ take n (papers xs)
papers_take n xs ys e = ap papers e ∙ sym (take-map paper_field n xs)

pub papers_push : (xs ys : List UnboundPartitionField) (x : UnboundPartitionField) → ys ≡ xs ++ x ∷ [] → papers ys ≡ papers xs ++ paper_field x ∷ []
papers_push xs ys x e = ap papers e ∙ map_push paper_field xs x

-- a field that breaks no rule, with its name, is pushed
module _ (l : FieldList) (ys : List UnboundPartitionField) (x : UnboundPartitionField) (name : List ℕ) (pushed : ys ≡ l.fields ++ x ∷ []) (is : name_bytes x.name ≡ name) where
  abbrev field : PaperField
  field = field_of x.source_id x.field_id name x.transform

  pub papers_added : papers ys ≡ listed l ++ field ∷ []
  papers_added = papers_push (l.fields) ys x pushed ∙ ap (λ (n : List ℕ). listed l ++ field_of x.source_id x.field_id n x.transform ∷ []) is

  pub buildable_added : AllKept (add_rules (listed l) field) → Buildable (papers ys)
  buildable_added k = subst Buildable (sym papers_added) (buildable_push (listed l) field (buildable_listed l) k)

-- and where it is not, they are as they were
pub buildable_pushed : (l : FieldList) (ys : List UnboundPartitionField) (x : UnboundPartitionField) (name : List ℕ) (r : Result (Unit {0}) Full)
    → MatchResult r (λ _. (length l.fields < 64) × (ys ≡ l.fields ++ x ∷ [])) (λ _. (length l.fields ≡ 64) × (ys ≡ l.fields))
    → name_bytes x.name ≡ name → AllKept (add_rules (listed l) (field_of x.source_id x.field_id name x.transform)) → Buildable (papers ys)
buildable_pushed l ys x name (Ok u) p is k = buildable_added l ys x name p.1 is k
buildable_pushed l ys x name (Err e) p is k = subst Buildable (sym (ap papers p.1)) (buildable_listed l)
