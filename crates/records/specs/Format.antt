-- Plan records: the bytes of an unbound spec. Assumes nothing.
use Rattle.std.specs.Prelude.{◌≡◌, ℕ, ◌<◌, ◌≤◌, List, ◌∷◌, ◌++◌, map, length, ℤ, IfSome, Some, None, Option, FitsSigned}
use Rattle.std.specs.Int.{w32}
use Rattle.std.specs.List.{flat_map, AllByRecursion}
use Rattle.octets.specs.BigEndian.{be2, be4, be_id}
use Rattle.transforms.specs.Printed.{printed, Narrow}
use Rattle.partitions.specs.Buildable.{Buildable}
use Rattle.partitions.specs.Fields.{PaperField, PaperSpec}

-- a flag, and the id, which is zero where there is none
abbrev pub flagged : Option ℤ → List ℕ
flagged None = 0 ∷ be4 0
flagged (Some id) = 1 ∷ be_id id

-- the parts of an entry
pub record Entry : Type 0 where
  pub source : ℤ
  pub id : Option ℤ
  pub name : List ℕ
  pub text : List ℕ

-- the source id, the id with its flag, the name and the text, each behind its length
unfoldable pub entry_bytes : Entry → List ℕ
entry_bytes e = be_id e.source ++ (flagged e.id ++ (length e.name ∷ (e.name ++ (length e.text ∷ e.text))))

-- the entry of a field has the printed transform as its text
abbrev pub entry_of : PaperField → Entry
entry_of f = record { source = f.source; id = f.id; name = f.name; text = printed f.transform }

unfoldable pub body_bytes : List Entry → List ℕ
body_bytes es = flat_map entry_bytes es

-- the spec id with its flag, the count of entries, and the distance back to the first
abbrev pub trailer_bytes : Option ℤ → ℕ → ℕ → List ℕ
trailer_bytes id count distance = flagged id ++ (count ∷ be2 distance)

abbrev pub field_bytes : List PaperField → List ℕ
field_bytes fs = body_bytes (map entry_of fs)

unfoldable pub record_bytes : PaperSpec → List ℕ
record_bytes s = field_bytes s.fields ++ trailer_bytes s.spec_id (length s.fields) (length (field_bytes s.fields))

-- an id of 32 bits, or none
abbrev pub IdFits : Option ℤ → Type 0
IdFits id = IfSome id (FitsSigned w32)

-- numbers that code can hold
pub record FieldFits (f : PaperField) : Type 0 where
  pub source : FitsSigned w32 f.source
  pub id : IdFits f.id
  pub width : Narrow f.transform

-- an entry whose numbers and lengths fit their bytes
pub record EntryFits (e : Entry) : Type 0 where
  pub source : FitsSigned w32 e.source
  pub id : IdFits e.id
  pub some : 1 ≤ length e.name
  pub short : length e.name ≤ 128
  pub text : length e.text < 256

-- a spec that an unbound draft can build
pub record Plan (s : PaperSpec) : Type 0 where
  pub id : IdFits s.spec_id
  pub each : AllByRecursion FieldFits s.fields
  pub buildable : Buildable s.fields

-- the bytes are the record of the spec
pub record RecordOf (bytes : List ℕ) (s : PaperSpec) : Type 0 where
  pub is : bytes ≡ record_bytes s
  pub plan : Plan s
