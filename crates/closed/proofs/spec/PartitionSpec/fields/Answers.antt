-- What the spec keeps, of its fields.
use Rattle.std.proofs.Common.{List, sym, ap, subst}
use Rattle.numbering.specs.Ids.{Distinct}
use Rattle.partitions.specs.Buildable.{Buildable}
use Rattle.closed.specs.Opened.{openeds, ids_of}
use Rattle.closed.specs.declared.field.PartitionField.{PartitionField}
use Rattle.closed.proofs.Bares.{opened_state}
use Rattle.closed.proofs.Held.{buildable_closed, distinct_closed}
use Rattle.closed.proofs.spec.PartitionSpec.fields.Goals as goal

pub returns : goal.returns
returns c =
    let e = c.as_slice.ensures.value in
    let s = c.args.self.now in
    record {
      same = ap openeds e;
      ids = ap ids_of e;
      state = opened_state c.as_slice.result.now;
      distinct = subst (λ (fs : List PartitionField). Distinct (ids_of fs)) (sym e) (distinct_closed s);
      buildable = subst (λ (fs : List PartitionField). Buildable (openeds fs)) (sym e) (buildable_closed s);
    }
