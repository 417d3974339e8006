-- Fields that the columns admit, one by one. Assumes nothing.
use Rattle.std.proofs.Common.{◌≡◌, ℕ, ◌+◌, ◌<◌, ◌≤◌, List, [], length, get_or, pos, None, sym, refl, ◌∙◌, subst, ⊎_elim, arith}
use Rattle.std.proofs.ByRecursion.{All-from_get_or}
use Rattle.std.proofs.lemmas.List.{get_or-map, length-map}
use Rattle.std.proofs.lemmas.Bool.{cases_lt}
use Rattle.std.specs.List.{AllByRecursion}
use Rattle.faults.specs.Rules.{FirstBroken}
use Rattle.transforms.specs.declared.transform.Transform.TheVariants.{Void}
use Rattle.schemas.specs.Columns.{Columns}
use Rattle.partitions.specs.BatchFaults.{batch_told}
use Rattle.partitions.specs.DraftFaults.{told}
use Rattle.partitions.specs.Fields.{PaperField, field_of}
use Rattle.partitions.specs.Views.{paper_field, papers}
use Rattle.partitions.specs.declared.batch.BatchCause.TheVariants.{Add}
use Rattle.partitions.specs.declared.fault.DraftFault.{DraftFault}
use Rattle.partitions.specs.declared.field.UnboundPartitionField.{UnboundPartitionField}
use Rattle.faults.proofs.Firsts.{same_told}
use Rattle.drafts.specs.BoundAdds.{NotAdmittedAt}
use Rattle.drafts.specs.SourceRules.{source_rules, Admitted}

abbrev pub AdmittedBefore : Columns → List PaperField → ℕ → Type 0
AdmittedBefore c fs n = (k : ℕ) (d : PaperField) → k < n → Admitted c (get_or fs k d)

-- what stands past the end of fields is never looked at
abbrev pub some_field : PaperField
some_field = field_of (pos 0) None [] Void

pub all_admitted : (c : Columns) (us : List UnboundPartitionField) (n : ℕ) → length us ≤ n → AdmittedBefore c (papers us) n → AllByRecursion (Admitted c) (papers us)
all_admitted c us n h b =
    let size = length-map us paper_field in
    All-from_get_or (Admitted c) (papers us) some_field (λ k l. b k some_field (omega arith))

-- the field that is read at i, as it is kept and on paper
module _ (c : Columns) (us : List UnboundPartitionField) (i : ℕ) (u : UnboundPartitionField) (l : i < length us) (is : u ≡ get_or us i u) (b : AdmittedBefore c (papers us) i) (f : PaperField) (seen : f ≡ paper_field u) where
  stands : (d : PaperField) → f ≡ get_or (papers us) i d
  stands d = seen ∙ subst (λ (x : UnboundPartitionField). paper_field u ≡ paper_field x) is refl ∙ sym (get_or-map paper_field us i u d l)

  pub one_more : Admitted c f → AdmittedBefore c (papers us) (i + 1)
  one_more a k d h = ⊎_elim (b k d) (λ m. let e : i ≡ k = omega arith in subst (λ j. Admitted c (get_or (papers us) j d)) e (subst (Admitted c) (stands d) a)) (cases_lt k i)

  pub not_admitted : (fault : DraftFault) → FirstBroken (source_rules c f) (told fault) → NotAdmittedAt c (papers us) i (batch_told (record { index = i; cause = Add fault }))
  not_admitted fault n =
      let t = batch_told (record { index = i; cause = Add fault }) in
      record {
        inside = subst (λ n. i < n) (sym (length-map us paper_field)) l;
        before = b;
        broken = λ d. subst (λ (g : PaperField). FirstBroken (source_rules c g) t) (stands d) (same_told (told fault) t refl refl (source_rules c f) n);
      }
