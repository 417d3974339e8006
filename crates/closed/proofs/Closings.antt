-- Closing: the fields that are filled in one by one, and the laws at each way that it can end. Assumes nothing.
use Rattle.std.proofs.Common.{◌≡◌, ℕ, ◌≤◌, List, map, length, take, ℤ, Some, Ok, Err, Result, is_ok, MatchResult, true, false, Option, sym, refl, ap, ◌∙◌, subst, arith}
use mathlib.Core.List.{map-map}
use Rattle.std.proofs.lemmas.List.{length-map}
use Rattle.std.proofs.lemmas.Bool.{false≢true}
use Rattle.numbering.specs.Numbering.{Numbering, Stuck}
use Rattle.numbering.specs.Outcome.{Refused}
use Rattle.numbering.specs.declared.NumberFault.{NumberFault}
use Rattle.numbering.specs.declared.NumberFault.TheVariants.{Short, NoNumber}
use Rattle.numbering.proofs.Laws.{numbered_unique, stuck_excludes, stated_numbering, numbered_distinct}
use Rattle.partitions.specs.Buildable.{Buildable, SameName, BothAlike, SameId}
use Rattle.partitions.specs.Fields.{PaperField}
use Rattle.partitions.specs.Places.{Apart}
use Rattle.partitions.specs.Views.{paper_field, papers}
use Rattle.partitions.specs.declared.fault.DraftFault.TheVariants.{NoNumber as Refusal}
use Rattle.partitions.specs.declared.field.UnboundPartitionField.{UnboundPartitionField}
use Rattle.closed.specs.Bare.{bares, stateds}
use Rattle.closed.specs.Closing.{ClosedAs, SomeStuck, ClosingLaws}
use Rattle.closed.specs.Opened.{openeds, ids_of}
use Rattle.closed.specs.declared.field.PartitionField.{PartitionField}
use Rattle.closed.proofs.Bares.{same_fields, same_length, names_kept, sources_kept, stated_once, distinct_apart, opened_state}

-- what a spec keeps of its fields
pub record Keeps (fs : List PaperField) : Type 0 where
  pub few : length fs ≤ 64
  pub names : Apart SameName fs
  pub sources : Apart BothAlike fs
  pub ids : Apart SameId fs

pub few_fields : (fs : List UnboundPartitionField) → Buildable (papers fs) → length fs ≤ 64
few_fields fs b = let size = length-map fs paper_field in omega (arith, b.few)

-- an answer of the numbering, for fields of code
module _ (start : ℤ) (fs : List UnboundPartitionField) (draft : List PaperField) (is : papers fs ≡ draft) where
  abbrev pub states : List (Option ℤ)
  states = map (λ (f : UnboundPartitionField). f.field_id) fs

  states_draft : states ≡ stateds draft
  states_draft = sym (map-map (λ (f : PaperField). f.id) paper_field fs) ∙ ap stateds is

  pub closed_as : (xs : List PartitionField) (written : List ℤ) → Numbering start states (take (length states) written)
      → bares (openeds xs) ≡ bares (papers fs) → ids_of xs ≡ take (length fs) written → ClosedAs start draft (openeds xs) (ids_of xs)
  closed_as xs written n rest ids = record {
    same = rest ∙ ap bares is;
    state = opened_state xs;
    numbering = subst (λ (d : List (Option ℤ)). Numbering start d (ids_of xs)) states_draft (subst (Numbering start states) (ap (λ (k : ℕ). take k written) (length-map fs (λ (f : UnboundPartitionField). f.field_id)) ∙ sym ids) n);
  }

  pub stuck_draft : (old new : List ℤ) (fault : NumberFault) → length fs ≤ length old → Refused start states old new fault → SomeStuck start draft
  stuck_draft old new Short room a = let size = length-map fs (λ (f : UnboundPartitionField). f.field_id) in absurd (omega (arith, a.short))
  stuck_draft old new (NoNumber place) room a = record { place = place; before = take place new; stuck = subst (λ (d : List (Option ℤ)). Stuck start d place (take place new)) states_draft a.stuck }

module _ (start : ℤ) (draft closed : List PaperField) (ids : List ℤ) where
  pub laws_closed : {A : Type 0} (u : A) → ClosedAs start draft closed ids → ClosingLaws {A = A} start draft closed ids (Ok u)
  laws_closed u c = record {
    only = λ other n. numbered_unique start (stateds draft) (length (stateds draft)) other ids n c.numbering;
    stuck = λ s. stuck_excludes start (stateds draft) s.place s.before ids s.stuck c.numbering;
    stable = λ stated all.
        let e = numbered_unique start (stateds draft) (length (stateds draft)) ids stated c.numbering (stated_numbering start (stateds draft) stated all) in
        same_fields closed draft c.same (c.state ∙ ap (λ (l : List ℤ). map Some l) e ∙ sym all);
  }

  pub laws_stuck : {A : Type 0} → SomeStuck start draft → ClosingLaws {A = A} start draft closed ids (Err Refusal)
  laws_stuck s = record {
    only = λ other n. stuck_excludes start (stateds draft) s.place s.before other s.stuck n;
    stuck = λ _. refl;
    stable = λ stated all. stuck_excludes start (stateds draft) s.place s.before stated s.stuck (stated_numbering start (stateds draft) stated all);
  }

  -- what a closed draft keeps
  pub keeps_closed : Buildable draft → ClosedAs start draft closed ids → Keeps closed
  keeps_closed b c =
      let size = same_length closed draft c.same in
      record {
        few = omega (arith, b.few);
        names = names_kept closed draft c.same b.names;
        sources = sources_kept closed draft c.same b.sources;
        ids = distinct_apart closed ids c.state (numbered_distinct start (stateds draft) ids (stated_once draft b.ids) c.numbering);
      }

-- an answer whose variant is known
pub refused_of : {T E : Type 0} (P : T → Type 0) {Q : E → Type 0} (r : Result T E) → false ≡ is_ok r → MatchResult r P Q → (e : E) × Q e
refused_of P (Ok x) e m = absurd (false≢true e)
refused_of P (Err f) e m = (f, m)

pub accepted_of : {T E : Type 0} {P : T → Type 0} (Q : E → Type 0) (r : Result T E) → true ≡ is_ok r → MatchResult r P Q → (x : T) × P x
accepted_of Q (Ok x) e m = (x, m)
accepted_of Q (Err f) e m = absurd (false≢true (sym e))
