-- Partition fields on paper, and what one field can have in common with another. Assumes nothing.
use Rattle.std.specs.Prelude.{◌≡◌, ℕ, List, ℤ, Some, Option, MatchOption}
use Rattle.transforms.specs.Orders.{Alike}
use Rattle.transforms.specs.declared.transform.Transform.{Transform}

-- the id is stated or not
pub record PaperField : Type 0 where
  pub source : ℤ
  pub id : Option ℤ
  pub name : List ℕ
  pub transform : Transform

abbrev pub field_of : ℤ → Option ℤ → List ℕ → Transform → PaperField
field_of source id name transform = record { source = source; id = id; name = name; transform = transform }

-- a draft or a spec: its id is stated or not
pub record PaperSpec : Type 0 where
  pub spec_id : Option ℤ
  pub fields : List PaperField

abbrev pub Named : List ℕ → PaperField → Type 0
Named name f = f.name ≡ name

-- it is on the source, with a transform that the source may not have beside the other
abbrev pub AlikeOn : ℤ → Transform → PaperField → Type 0
AlikeOn source transform f = (f.source ≡ source) × Alike f.transform transform

abbrev pub HasId : ℤ → PaperField → Type 0
HasId id f = f.id ≡ Some id

-- an id that is stated, and that the field has
abbrev pub HasStatedId : Option ℤ → PaperField → Type 0
HasStatedId id f = MatchOption id ⊥ (λ stated. HasId stated f)
