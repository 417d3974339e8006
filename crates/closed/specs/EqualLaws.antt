-- `==` of fields and of closed specs is symmetric and transitive, as its parts are. Assumes nothing.
use Rattle.std.specs.Cmp.{IsPartialEquivalence, and_per, on_per, partial_equiv_from_equiv, int_eq_equiv}
use Rattle.std.specs.Cmp.Lexicographic.{lists_per, nat_list_eq_equiv}
use Rattle.names.specs.NameBytes.{name_bytes}
use Rattle.transforms.specs.contracts.transform.TransformPartialEq.TheImpl.Laws.{laws-law}
use Rattle.closed.specs.Equals.{bare_eq, field_eq, spec_eq}

pub bare_eq_laws : IsPartialEquivalence bare_eq
bare_eq_laws =
    and_per (on_per (λ f. f.source_id) (partial_equiv_from_equiv int_eq_equiv))
    (and_per (on_per (λ f. name_bytes f.name) (partial_equiv_from_equiv nat_list_eq_equiv)) (on_per (λ f. f.transform) laws-law))

pub field_eq_laws : IsPartialEquivalence field_eq
field_eq_laws = and_per (on_per (λ f. f.field_id) (partial_equiv_from_equiv int_eq_equiv)) bare_eq_laws

pub spec_eq_laws : IsPartialEquivalence spec_eq
spec_eq_laws = and_per (on_per (λ s. s.spec_id) (partial_equiv_from_equiv int_eq_equiv)) (on_per (λ s. s.fields) (lists_per field_eq_laws))
