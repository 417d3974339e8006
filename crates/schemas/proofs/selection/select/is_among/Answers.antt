-- The library's search and the definition decide the same.
use Rattle.std.proofs.Common.{◌≡◌, w32, SFits}
use Rattle.std.specs.List.{IsAnyAnswer}
use Rattle.std.specs.Ordering.{int_eq}
use Rattle.std.proofs.lemmas.List.Elements.{contains_decides}
use Rattle.std.proofs.lemmas.Int.{to_z-of_z}
use Rattle.std.proofs.lemmas.Bool.Decides.{same_from_decides, Decides-int_eq}
use Rattle.schemas.specs.Ids.{has}
use Rattle.schemas.proofs.Identity.{has_decides}
use Rattle.schemas.proofs.selection.select.is_among.Goals as goal

pub returns : goal.returns
returns c =
    let ids = c.args.ids.now in
    let id = c.args.id in
    let fits : SFits w32 id = c.ranges.id in
    let e : IsAnyAnswer (λ y t. int_eq y id ≡ t) ids c.contains.result = simp to_z-of_z at c.contains.ensures.cases in
    same_from_decides _ (has ids id) (contains_decides int_eq Decides-int_eq ids id _ e) (has_decides ids id)
