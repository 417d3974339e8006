-- The fields of a closed draft on columns: admitted as the draft's are, since only their ids differ. Assumes nothing.
use Rattle.std.proofs.Common.{◌≡◌, ℕ, true, List, [], ◌∷◌, is_some, IfOk, Some, None, Ok, Err, Option, Result, sym, refl, ap, ◌∙◌, subst, arith}
use Rattle.std.proofs.ByRecursion.{All-weaker}
use Rattle.std.proofs.lemmas.Bool.{false≢true}
use Rattle.std.specs.List.{AllByRecursion}
use Rattle.faults.specs.Rules.{AllKept}
use Rattle.transforms.specs.Results.{result_of}
use Rattle.schemas.specs.Columns.{Columns}
use Rattle.partitions.specs.Fields.{PaperField}
use Rattle.faults.proofs.Firsts.{kept_join}
use Rattle.partitions.specs.declared.fault.DraftFault.{DraftFault}
use Rattle.closed.specs.Bare.{Bare, bare, bares}
use Rattle.closed.specs.Closed.{paper_closed}
use Rattle.closed.specs.Closing.{Closes}
use Rattle.closed.specs.Typing.{made_of, field_rules, each_rules}
use Rattle.closed.specs.declared.spec.PartitionSpec.{PartitionSpec}
use Rattle.closed.proofs.Typings.{result_kept}
use Rattle.drafts.specs.Closings.{FitWhenClosed}
use Rattle.drafts.specs.Laws.{Fits}
use Rattle.drafts.specs.Paper.{Paper}
use Rattle.drafts.specs.SourceRules.{Admitted}
use Rattle.drafts.proofs.Reached.{fits, admitted_on_every}

some_is : {X : Type 0} (o : Option X) → is_some o ≡ true → (x : X) × (o ≡ Some x)
some_is None e = absurd (false≢true e)
some_is (Some x) e = (x, refl)

abbrev idless : Bare → PaperField
idless b = record { source = b.source; id = None; name = b.name; transform = b.transform }

module _ (c : Columns) where
  -- no rule of a source asks for the id
  same_admitted : (f g : PaperField) → bare f ≡ bare g → Admitted c g → Admitted c f
  same_admitted f g e a = subst (λ (b : Bare). Admitted c (idless b)) (sym e) a

  pub all_admitted : (xs ys : List PaperField) → bares xs ≡ bares ys → AllByRecursion (Admitted c) ys → AllByRecursion (Admitted c) xs
  all_admitted [] ys e a = tt
  all_admitted (x ∷ xs) [] e a = let z : ◌≡◌ {A = ℕ} 0 1 = cc in absurd (omega arith)
  all_admitted (x ∷ xs) (y ∷ ys) e a =
      let h : bare x ≡ bare y = cc in
      let t : bares xs ≡ bares ys = cc in
      (same_admitted x y h a.0, all_admitted xs ys t a.1)

  -- a field that fits has a type
  typed : (f : PaperField) → Fits c f → AllKept (field_rules c f)
  typed f h =
      let r = some_is (result_of f.transform h.source.field_type) h.result in
      result_kept c f r.0 (ap (made_of f.transform) h.found ∙ r.1)

  all_typed : (fs : List PaperField) → AllByRecursion (Fits c) fs → AllKept (each_rules c fs)
  all_typed [] a = tt
  all_typed (f ∷ fs) a = kept_join (field_rules c f) (each_rules c fs) (typed f a.0) (all_typed fs a.1)

pub fit_when_closed : (p : Paper) (closed : List PaperField) → bares closed ≡ bares p.fields → FitWhenClosed p closed
fit_when_closed p closed same calls answers ran c suits =
    let a = all_admitted c closed p.fields same (admitted_on_every p calls answers ran c suits).0 in
    let f = All-weaker (Admitted c) (Fits c) (fits c) closed a in
    ((a, f), all_typed c closed f)

pub fit_if_closed : (p : Paper) (old new : PartitionSpec) (r : Result (Unit {0}) DraftFault) → Closes p.spec_id p.start p.fields old new r → IfOk r (λ _. FitWhenClosed p (paper_closed new).fields)
fit_if_closed p old new (Ok u) c = fit_when_closed p (paper_closed new).fields c.1.same
fit_if_closed p old new (Err fault) c = tt
