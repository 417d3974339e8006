-- The calls on a draft, what each answers and leaves, and whole histories of calls. Assumes nothing.
use Rattle.std.specs.Prelude.{◌≡◌, ℕ, List, [], ◌∷◌, ◌++◌, ℤ, IsSomeAnd, None, Option, MatchOption}
use Rattle.std.specs.Option.{option_to_list}
use Rattle.std.specs.List.{AllByRecursion}
use Rattle.faults.specs.Rules.{Rule, AllKept, FirstBroken}
use Rattle.faults.specs.Told.{Told}
use Rattle.transforms.specs.declared.transform.Transform.{Transform}
use Rattle.schemas.specs.Columns.{Columns, Same}
use Rattle.partitions.specs.Batches.{given}
use Rattle.partitions.specs.Batches.{EachKept, RefusedAt}
use Rattle.partitions.specs.Fields.{PaperField}
use Rattle.drafts.specs.BoundAdds.{on_named, named_rules}
use Rattle.drafts.specs.Paper.{Paper, blank_paper, with_spec_id, with_start, with_fields}
use Rattle.drafts.specs.SourceRules.{bound_rules}

-- a call has the columns that the passed schema shows; an entry of a batch is a field, or none where its name's place is
-- outside the area
pub data Call : Type 0 where
  set_spec_id : ℤ → Call
  set_start : ℤ → Call
  add_field : Columns → PaperField → Call
  add_named : Columns → List ℕ → List ℕ → Transform → Call
  add_batch : Columns → List (Option PaperField) → Call

-- none where the call is accepted, else what is told
abbrev pub Answer : Type 0
Answer = Option Told

-- accepted where every rule is kept, and then `next` is left; else the first broken rule is told, and nothing changes
abbrev pub Changes : List Rule → Paper → Paper → Answer → Paper → Type 0
Changes rules p next answer q = MatchOption answer (AllKept rules × (q ≡ next)) (λ t. FirstBroken rules t × (t.index ≡ None) × (q ≡ p))

-- all entries are added, or the first that breaks a rule is told with its index, and nothing changes
abbrev pub ChangesAll : Columns → List (Option PaperField) → Paper → Answer → Paper → Type 0
ChangesAll c es p answer q =
    MatchOption answer (EachKept (bound_rules c) p.fields es × (q ≡ with_fields (p.fields ++ given es) p))
    (λ t. IsSomeAnd t.index (λ i. RefusedAt (bound_rules c) p.fields es i t) × (q ≡ p))

-- what a call on the draft answers and leaves
abbrev pub Step : Paper → Call → Answer → Paper → Type 0
Step p (set_spec_id id) = Changes [] p (with_spec_id id p)
Step p (set_start n) = Changes [] p (with_start n p)
Step p (add_field c f) = Changes (bound_rules c p.fields f) p (with_fields (p.fields ++ f ∷ []) p)
Step p (add_named c source name transform) =
    let e = on_named c source name transform in
    Changes (named_rules c p.fields e) p (with_fields (p.fields ++ option_to_list e) p)
Step p (add_batch c es) = ChangesAll c es p

-- the calls, each with its answer, lead from p to q
abbrev pub RanFrom : Paper → List Call → List Answer → Paper → Type 0
RanFrom p [] [] q = p ≡ q
RanFrom p [] (answer ∷ answers) q = ⊥
RanFrom p (call ∷ calls) [] q = ⊥
RanFrom p (call ∷ calls) (answer ∷ answers) q = (m : Paper) × (Step p call answer m × RanFrom m calls answers q)

abbrev pub Ran : List Call → List Answer → Paper → Type 0
Ran calls answers p = RanFrom blank_paper calls answers p

-- with one more call every history that led to p leads to q
abbrev pub Continues : Paper → Call → Answer → Paper → Type 0
Continues p call answer q =
    (calls : List Call) (answers : List Answer) → Ran calls answers p → Ran (calls ++ call ∷ []) (answers ++ answer ∷ []) q

-- the columns are the same as those of the call
abbrev pub SuitsCall : Columns → Call → Type 0
SuitsCall c (set_spec_id id) = Unit {0}
SuitsCall c (set_start n) = Unit {0}
SuitsCall c (add_field d f) = Same c d
SuitsCall c (add_named d source name transform) = Same c d
SuitsCall c (add_batch d es) = Same c d

abbrev pub Suits : Columns → List Call → Type 0
Suits c calls = AllByRecursion (SuitsCall c) calls
