-- A front of buildable fields is buildable.
use Rattle.std.proofs.Common.{sym, subst}
use Rattle.partitions.specs.Buildable.{Buildable}
use Rattle.partitions.specs.Listed.{listed}
use Rattle.partitions.proofs.Builds.{buildable_take}
use Rattle.partitions.proofs.Kept.{buildable_listed, few_of, papers_take}
use Rattle.partitions.proofs.fields.FieldList.truncate.Goals as goal

pub invariant_of-self : goal.invariant_of-self
invariant_of-self c =
    let e = papers_take c.args.count c.args.self.now.fields c.truncate.new.self c.truncate.ensures in
    let b = subst Buildable (sym e) (buildable_take c.args.count (listed c.args.self.now) (buildable_listed c.args.self.now)) in
    record { few = few_of c.truncate.new.self b.few; names = b.names; sources = b.sources; ids = b.ids }

pub returns : goal.returns
returns c = papers_take c.args.count c.args.self.now.fields c.truncate.new.self c.truncate.ensures
