-- An unbound spec that is taken over, from what the check of its fields says. Assumes nothing.
use Rattle.std.proofs.Common.{◌≡◌, List, [], ◌∷◌, ◌++◌, map, ℤ, pos, IfOk, Some, None, Ok, Err, Option, Result, unwrap_or, sym, refl, ap, ◌∙◌, subst}
use Rattle.std.specs.List.{AllByRecursion}
use Rattle.schemas.specs.Columns.{Columns}
use Rattle.partitions.specs.BatchFaults.{batch_told}
use Rattle.partitions.specs.Batches.{RefusedAt}
use Rattle.partitions.specs.Buildable.{Buildable}
use Rattle.partitions.specs.Fields.{PaperField, PaperSpec}
use Rattle.partitions.specs.declared.batch.BatchFault.{BatchFault}
use Rattle.drafts.specs.BoundAdds.{NotAdmittedAt}
use Rattle.drafts.specs.Calls.{Answer, Step, Ran}
use Rattle.drafts.specs.Drafts.{paper}
use Rattle.drafts.specs.Paper.{Paper, blank_paper, with_spec_id, with_fields}
use Rattle.drafts.specs.SourceRules.{bound_rules, Admitted}
use Rattle.drafts.specs.Taking.{id_calls, id_answers, identified, taking_batch, taking_calls, taking_answer, taken}
use Rattle.drafts.specs.declared.builder.PartitionSpecBuilder.{PartitionSpecBuilder}
use Rattle.drafts.proofs.Accepting.{accepted, refused_first}
use Rattle.drafts.proofs.Histories.{one_more}

abbrev pub Takes : Columns → PaperSpec → Result PartitionSpecBuilder BatchFault → Type 0
Takes c s r =
    record {
      step : Step (identified s.spec_id) (taking_batch c s.fields) (taking_answer r) (taken s.spec_id r);
      history : Ran (taking_calls c s) (id_answers s.spec_id ++ taking_answer r ∷ []) (taken s.spec_id r);
      fields : IfOk r (λ d. paper d ≡ with_fields s.fields (identified s.spec_id));
    }

pub no_fields : (id : Option ℤ) → (identified id).fields ≡ []
no_fields None = refl
no_fields (Some id) = refl

identified_run : (id : Option ℤ) → Ran (id_calls id) (id_answers id) (identified id)
identified_run None = refl
identified_run (Some id) = (with_spec_id id blank_paper, ((tt, refl), refl))

module _ (c : Columns) (s : PaperSpec) (b : Buildable s.fields) where
  then_batch : (answer : Answer) (q : Paper) → Step (identified s.spec_id) (taking_batch c s.fields) answer q → Ran (taking_calls c s) (id_answers s.spec_id ++ answer ∷ []) q
  then_batch answer q h = one_more blank_paper (identified s.spec_id) q (taking_batch c s.fields) answer (id_calls s.spec_id) (id_answers s.spec_id) h (identified_run s.spec_id)

  took : (d : PartitionSpecBuilder) → paper d ≡ with_fields s.fields (identified s.spec_id) → AllByRecursion (Admitted c) s.fields → Takes c s (Ok d)
  took d e a =
      let h : Step (identified s.spec_id) (taking_batch c s.fields) None (paper d)
      = subst (λ (q : Paper). Step (identified s.spec_id) (taking_batch c s.fields) None q) (sym e) (accepted c (identified s.spec_id) s.fields (no_fields s.spec_id) b a) in
      record { step = h; history = then_batch None (paper d) h; fields = e }

  refused : (fault : BatchFault) → NotAdmittedAt c s.fields fault.index (batch_told fault) → Takes c s (Err fault)
  refused fault n =
      let h : Step (identified s.spec_id) (taking_batch c s.fields) (Some (batch_told fault)) (identified s.spec_id)
      = (subst (λ (gs : List PaperField). RefusedAt (bound_rules c) gs (map Some s.fields) fault.index (batch_told fault)) (sym (no_fields s.spec_id)) (refused_first c s.fields b fault.index (batch_told fault) n), refl) in
      record { step = h; history = then_batch (Some (batch_told fault)) (identified s.spec_id) h; fields = tt }

identified_is : (id : Option ℤ) (own : ℤ) (fs : List PaperField) → own ≡ unwrap_or id (pos 0) → ◌≡◌ {A = Paper} (record { spec_id = own; start = pos 999; fields = fs }) (with_fields fs (identified id))
identified_is None own fs e = ap (λ (n : ℤ). with_spec_id n (with_fields fs blank_paper)) e
identified_is (Some id) own fs e = ap (λ (n : ℤ). with_spec_id n (with_fields fs blank_paper)) e

-- the spec by its parts: its id, and its fields as they are and as they are read
module _ (c : Columns) (s : PaperSpec) (id : Option ℤ) (fs gs : List PaperField) (parts : record { spec_id = id; fields = fs } ≡ s) (same : gs ≡ fs) (b : Buildable gs) where
  abbrev read : PaperSpec
  read = record { spec_id = id; fields = gs }

  whole : read ≡ s
  whole = ap (λ (hs : List PaperField). record { spec_id = id; fields = hs }) same ∙ parts

  pub taken_over : (d : PartitionSpecBuilder) (own passed : ℤ) → paper d ≡ record { spec_id = own; start = pos 999; fields = fs } → own ≡ passed → passed ≡ unwrap_or id (pos 0) → AllByRecursion (Admitted c) gs → Takes c s (Ok d)
  taken_over d own passed e o v a = subst (λ (t : PaperSpec). Takes c t (Ok d)) whole (took c read b d (e ∙ identified_is id own fs (o ∙ v) ∙ ap (λ (hs : List PaperField). with_fields hs (identified id)) (sym same)) a)

  -- what the exit of a `?` leaves
  pub refused_by : (r : Result PartitionSpecBuilder BatchFault) (y fault : BatchFault) → r ≡ Err y → y ≡ fault → NotAdmittedAt c gs fault.index (batch_told fault) → Takes c s r
  refused_by r y fault e q n = subst (λ (t : PaperSpec). Takes c t r) whole (subst (λ (v : Result PartitionSpecBuilder BatchFault). Takes c read v) (sym (e ∙ ap Err q)) (refused c read b fault n))
