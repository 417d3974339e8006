-- A search of the places of all fields.
use Rattle.std.proofs.Common.{rules}
use Rattle.std.proofs.lemmas.Iterator.{first_from_Range}
use borrow.Author.Tests.{tests}
use Rattle.partitions.proofs.Finding.{MeetsAt, first_place}
use Rattle.partitions.proofs.validator.CorePartitionSpecValidator.first.Goals as goal

pub returns : goal.returns
returns g c =
    let P = g.S.Sought.meets c.args.sought.now in
    let xs = g.Self.CorePartitionSpecValidator.held c.args.self.now in
    first_place P xs c.field_count.result c.field_count.ensures c.find.result
    (first_from_Range _ _ _ c.find.result (MeetsAt P xs) (λ k. MeetsAt P xs k → ⊥) c.find.ensures.ran (λ x q k. search (rules, tests)) (λ x q k. search (rules, tests)))
