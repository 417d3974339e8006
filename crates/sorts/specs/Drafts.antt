-- Drafts and orders by what they hold, and what the calls that change one do. Assumes nothing.
use Rattle.std.specs.Prelude.{◌≡◌, List, [], ◌∷◌, ◌++◌, ℤ, pos, Some, None, Option, Result, MatchResult}
use Rattle.faults.specs.Rules.{Rule, FirstBroken, AllKept}
use Rattle.schemas.specs.Columns.{Columns}
use Rattle.sorts.specs.declared.sort.SortField.{SortField}
use Rattle.sorts.specs.declared.sort.SortFault.{SortFault}
use Rattle.sorts.specs.declared.sort.SortOrder.{SortOrder}
use Rattle.sorts.specs.declared.sort.SortOrderBuilder.{SortOrderBuilder}
use Rattle.sorts.specs.SortRules.{told, room_rules, order_rules, build_rules}

pub record Draft : Type 0 where
  pub id : Option ℤ
  pub fields : List SortField

pub record Order : Type 0 where
  pub id : ℤ
  pub fields : List SortField

abbrev pub draft_of : SortOrderBuilder → Draft
draft_of draft = record { id = draft.order_id; fields = draft.fields }

abbrev pub order_of : SortOrder → Order
order_of order = record { id = order.order_id; fields = order.fields }

abbrev pub blank : Draft
blank = record { id = None; fields = [] }

abbrev pub unsorted : Order
unsorted = record { id = pos 0; fields = [] }

abbrev pub stated : ℤ → Draft → Draft
stated id draft = record { id = Some id; fields = draft.fields }

-- an id that is not stated is 1, and 0 where there are no fields
abbrev pub order_id : Option ℤ → List SortField → ℤ
order_id (Some id) fields = id
order_id None [] = pos 0
order_id None (field ∷ fields) = pos 1

abbrev pub closed : Draft → Order
closed draft = record { id = order_id draft.id draft.fields; fields = draft.fields }

-- what is held becomes `next` where all rules are kept; else the first broken rule is told, and nothing changes
abbrev pub Changes : {H : Type 0} → List Rule → H → H → H → Result (Unit {0}) SortFault → Type 0
Changes rules next before after r = MatchResult r (λ _. AllKept rules × (after ≡ next)) (λ fault. FirstBroken rules (told fault) × (after ≡ before))

-- a field goes behind the others
abbrev pub Adds : SortField → Draft → Draft → Result (Unit {0}) SortFault → Type 0
Adds field before after = Changes (room_rules before.fields) (record { id = before.id; fields = before.fields ++ field ∷ [] }) before after

-- the order gets the id
abbrev pub Renumbers : ℤ → Order → Order → Result (Unit {0}) SortFault → Type 0
Renumbers id before after = Changes (order_rules (Some id) before.fields) (record { id = id; fields = before.fields }) before after

-- the order becomes what the draft states
abbrev pub Builds : Draft → Order → Order → Result (Unit {0}) SortFault → Type 0
Builds draft before after = Changes (order_rules draft.id draft.fields) (closed draft) before after

-- and each field suits the columns
abbrev pub BuildsOn : Columns → Draft → Order → Order → Result (Unit {0}) SortFault → Type 0
BuildsOn c draft before after = Changes (build_rules c draft.id draft.fields) (closed draft) before after
