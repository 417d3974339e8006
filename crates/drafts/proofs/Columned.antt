-- A schema counts only by its columns: calls made with others that show the same are the same calls. Assumes nothing.
use Rattle.std.proofs.Common.{◌≡◌, List, [], ◌∷◌, map, sym, refl, ap, subst}
use Rattle.schemas.specs.Columns.{Columns}
use Rattle.schemas.proofs.Lookups.{same_columns}
use Rattle.drafts.specs.Calls.{Call, set_spec_id, set_start, add_field, add_named, add_batch, Step, Ran, SuitsCall, Suits}
use Rattle.drafts.specs.Laws.{made_with, StepByColumns, RunByColumns}

pub same_call : (c : Columns) (call : Call) → SuitsCall c call → call ≡ made_with c call
same_call c (set_spec_id id) s = refl
same_call c (set_start n) s = refl
same_call c (add_field d f) s = ap (λ (e : Columns). add_field e f) (sym (same_columns c d s))
same_call c (add_named d source name transform) s = ap (λ (e : Columns). add_named e source name transform) (sym (same_columns c d s))
same_call c (add_batch d es) s = ap (λ (e : Columns). add_batch e es) (sym (same_columns c d s))

same_calls : (c : Columns) (calls : List Call) → Suits c calls → calls ≡ map (made_with c) calls
same_calls c [] s = refl
same_calls c (call ∷ calls) s = λ i. same_call c call s.0 i ∷ same_calls c calls s.1 i

pub step_by_columns : StepByColumns
step_by_columns c p q call answer s h = subst (λ (k : Call). Step p k answer q) (same_call c call s) h

pub run_by_columns : RunByColumns
run_by_columns c calls answers p s h = subst (λ (ks : List Call). Ran ks answers p) (same_calls c calls s) h
