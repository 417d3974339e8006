-- A closed spec that is bound again. Assumes nothing.
use Rattle.std.proofs.Common.{◌≡◌, List, [], ◌∷◌, ◌++◌, ℤ, IfOk, Some, None, Ok, Err, Option, Result, sym, refl, ap, ◌∙◌, subst, MatchResult}
use Rattle.std.specs.List.{AllByRecursion}
use Rattle.schemas.specs.Columns.{Columns, Same}
use Rattle.partitions.specs.BatchFaults.{batch_told}
use Rattle.partitions.specs.Buildable.{Buildable}
use Rattle.partitions.specs.Fields.{PaperField, PaperSpec}
use Rattle.partitions.specs.declared.batch.BatchFault.{BatchFault}
use Rattle.partitions.specs.declared.fault.DraftFault.{DraftFault}
use Rattle.closed.specs.Closed.{paper_closed, closed_ids}
use Rattle.closed.specs.Closing.{Closes, ClosingLaws}
use Rattle.closed.specs.declared.spec.PartitionSpec.{PartitionSpec}
use Rattle.drafts.specs.Calls.{Call, Answer, Step, Ran, Suits}
use Rattle.drafts.specs.Closings.{FitWhenClosed}
use Rattle.drafts.specs.Paper.{Paper}
use Rattle.drafts.specs.SourceRules.{Admitted}
use Rattle.drafts.specs.Taking.{identified, id_answers, taking_batch, taking_calls}
use Rattle.drafts.proofs.Accepting.{accepted}
use Rattle.drafts.proofs.Closings.{all_admitted}
use Rattle.drafts.proofs.Deciding.{one_answer}
use Rattle.drafts.proofs.Reached.{admitted_on_every}
use Rattle.drafts.proofs.Taken.{no_fields}
use Rattle.records.proofs.Unique.{record_unique}
use Rattle.binding.specs.Backs.{ClosedFrom, BoundBack, ReadAndBoundBack, FitOnEverySchemaThatShowsTheSame}
use Rattle.binding.specs.Binds.{drafted, Takes, ClosesTaken, Binds}
use Rattle.binding.specs.declared.fault.BindFault.{BindFault}
use Rattle.binding.specs.declared.fault.BindFault.TheVariants.{Batch, Draft}

module _ (c : Columns) (s : PaperSpec) (b : Buildable s.fields) (calls : List Call) (answers : List Answer) (from : ClosedFrom calls answers s) (suits : Suits c calls) where
  -- the columns admit the fields, since they admitted the draft's
  admitted : AllByRecursion (Admitted c) s.fields
  admitted = all_admitted c s.fields from.draft.fields from.closed.same (admitted_on_every from.draft calls answers from.ran c suits).0

  -- so the batch is accepted
  taken : Takes c s None (drafted s)
  taken = accepted c (identified s.spec_id) s.fields (no_fields s.spec_id) b admitted

  not_refused : (p : Paper) (fault : BatchFault) → Takes c s (Some (batch_told fault)) p → ⊥
  not_refused p fault t = (one_answer (identified s.spec_id) (taking_batch c s.fields) None (Some (batch_told fault)) (drafted s) p taken t).1

  same_id : (new : PartitionSpec) → (paper_closed new).spec_id ≡ Some (drafted s).spec_id → (paper_closed new).spec_id ≡ s.spec_id
  same_id new e = e ∙ ap (λ (id : Option ℤ). Some (identified id).spec_id) from.id ∙ sym from.id

  back : (old new : PartitionSpec) (r : Result (Unit {0}) DraftFault) → ClosesTaken s old new r → ClosingLaws (drafted s).start s.fields (paper_closed new).fields (closed_ids new) r
      → MatchResult r (λ _. paper_closed new ≡ s) (λ _. ⊥)
  back old new (Ok u) closes laws =
      let fields : (paper_closed new).fields ≡ s.fields = laws.stable from.ids from.closed.state in
      let id = same_id new closes.0 in
      (λ i. record { spec_id = id i; fields = fields i })
  back old new (Err fault) closes laws = laws.stable from.ids from.closed.state

other_way : (c d : Columns) → Same c d → Same d c
other_way c d s = record { ids = λ id. sym (s.ids id); names = λ name. sym (s.names name) }

-- the batch is the last call of a history
history : (c : Columns) (id : Option ℤ) (fs : List PaperField) (p : Paper) → Step (identified id) (taking_batch c fs) None p → Ran (taking_calls c (record { spec_id = id; fields = fs })) (id_answers id ++ None ∷ []) p
history c None fs p t = (p, (t, refl))
history c (Some id) fs p t = (identified (Some id), ((tt, refl), (p, (t, refl))))

suiting : (c d : Columns) (id : Option ℤ) (fs : List PaperField) → Same c d → Suits d (taking_calls c (record { spec_id = id; fields = fs }))
suiting c d None fs e = (other_way c d e, tt)
suiting c d (Some id) fs e = (tt, (other_way c d e, tt))

-- all that a bind promises
pub record Promised (c : Columns) (s : PaperSpec) (old new : PartitionSpec) (r : Result (Unit {0}) BindFault) : Type 0 where
  pub answer : Binds c s old new r
  pub back : BoundBack c s new r
  pub read_back : ReadAndBoundBack c s new r
  pub fit : IfOk r (λ _. FitOnEverySchemaThatShowsTheSame c (paper_closed new).fields)

module _ (c : Columns) (s : PaperSpec) (b : Buildable s.fields) (old new : PartitionSpec) where
  -- what is read from a spec's record is the spec
  read_too : (r : Result (Unit {0}) BindFault) → BoundBack c s new r → ReadAndBoundBack c s new r
  read_too r back calls answers t bytes from suits rt rs =
      let same : t ≡ s = record_unique t s rt.plan rs.plan (sym rt.is ∙ rs.is) in
      subst (λ (u : PaperSpec). MatchResult r (λ _. paper_closed new ≡ u) (λ _. ⊥)) (sym same) (back calls answers (subst (ClosedFrom calls answers) same from) suits)

  pub batch_refused : (fault : BatchFault) → Takes c s (Some (batch_told fault)) (identified s.spec_id) → new ≡ old → Promised c s old new (Err (Batch fault))
  batch_refused fault t e =
      let back : BoundBack c s new (Err (Batch fault)) = λ calls answers from suits. not_refused c s b calls answers from suits (identified s.spec_id) fault t in
      record { answer = (t, e); back = back; read_back = read_too (Err (Batch fault)) back; fit = tt }

  -- the draft that took the spec over
  module _ (p : Paper) (is : p ≡ drafted s) where
    pub closed : Takes c s None p → (u : Unit {0}) → Closes p.spec_id p.start p.fields old new (Ok u) → ClosingLaws p.start p.fields (paper_closed new).fields (closed_ids new) (Ok u)
        → FitWhenClosed p (paper_closed new).fields → Promised c s old new (Ok u)
    closed =
        subst
        (λ (q : Paper). Takes c s None q → (u : Unit {0}) → Closes q.spec_id q.start q.fields old new (Ok u) → ClosingLaws q.start q.fields (paper_closed new).fields (closed_ids new) (Ok u)
        → FitWhenClosed q (paper_closed new).fields → Promised c s old new (Ok u))
        (sym is)
        (λ t u closes laws fit.
        let back : BoundBack c s new (Ok u) = λ calls answers from suits. back c s b calls answers from suits old new (Ok u) closes laws in
        record {
          answer = (t, closes);
          back = back;
          read_back = read_too (Ok u) back;
          fit = λ d e. fit (taking_calls c s) (id_answers s.spec_id ++ None ∷ []) (history c s.spec_id s.fields (drafted s) t) d (suiting c d s.spec_id s.fields e);
        })

    pub not_closed : Takes c s None p → (fault : DraftFault) → Closes p.spec_id p.start p.fields old new (Err fault) → ClosingLaws {A = Unit {0}} p.start p.fields (paper_closed new).fields (closed_ids new) (Err fault)
        → Promised c s old new (Err (Draft fault))
    not_closed =
        subst
        (λ (q : Paper). Takes c s None q → (fault : DraftFault) → Closes q.spec_id q.start q.fields old new (Err fault) → ClosingLaws {A = Unit {0}} q.start q.fields (paper_closed new).fields (closed_ids new) (Err fault)
        → Promised c s old new (Err (Draft fault)))
        (sym is)
        (λ t fault closes laws.
        let back : BoundBack c s new (Err (Draft fault)) = λ calls answers from suits. back c s b calls answers from suits old new (Err fault) closes laws in
        record { answer = (t, closes); back = back; read_back = read_too (Err (Draft fault)) back; fit = tt })
