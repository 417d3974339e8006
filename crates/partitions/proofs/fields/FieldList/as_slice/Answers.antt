-- The list's own facts make its fields buildable.
use Rattle.std.proofs.Common.{sym, ap, subst}
use Rattle.partitions.specs.Buildable.{Buildable}
use Rattle.partitions.specs.Views.{papers}
use Rattle.partitions.proofs.Builds.{buildable_exactly}
use Rattle.partitions.proofs.Kept.{buildable_listed}
use Rattle.partitions.proofs.fields.FieldList.as_slice.Goals as goal

pub returns : goal.returns
returns c =
    let e = ap papers c.as_slice.ensures.value in
    record { same = e; buildable = subst Buildable (sym e) (buildable_listed c.args.self.now); law = buildable_exactly }
