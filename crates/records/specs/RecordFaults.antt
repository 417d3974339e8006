-- What each refusal of a record tells. Assumes nothing.
use Rattle.std.specs.Prelude.{ℕ, List, Some, None, codes, Option}
use Rattle.faults.specs.Told.{Told}
use Rattle.faults.specs.declared.error.ErrorKind.TheVariants.{DataInvalid}
use Rattle.faults.specs.declared.error.Layer.TheVariants.{Record}
use Rattle.names.specs.NameRules.{told as nameTold}
use Rattle.texts.specs.Tells.{told as textTold}
use Rattle.records.specs.declared.fault.EntryFault.{EntryFault}
use Rattle.records.specs.declared.fault.EntryFault.TheVariants.{Malformed, Text, Name, NameUsed, Alike, IdUsed}
use Rattle.records.specs.declared.fault.RecordFault.{RecordFault}
use Rattle.records.specs.declared.fault.RecordFault.TheVariants.{TrailerWrong, MemoryShort, Entry}

abbrev invalid : ℕ → List ℕ → Option ℕ → Told
invalid number reason value = record { number = number; kind = DataInvalid; layer = Record; reason = reason; value = value; index = None }

-- a text's and a name's fault tell what they tell without a record
abbrev pub entry_told : EntryFault → Told
entry_told Malformed = invalid 11 (codes "entry-wrong") None
entry_told (Text fault) = textTold fault
entry_told (Name fault) = nameTold fault
entry_told (NameUsed index) = invalid 20 (codes "name-used") (Some index)
entry_told (Alike index) = invalid 21 (codes "alike") (Some index)
entry_told IdUsed = invalid 27 (codes "id-used") None

-- what an entry's fault tells, at the entry's index and from the record's layer
abbrev at : Told → ℕ → Told
at t index = record { number = t.number; kind = t.kind; layer = Record; reason = t.reason; value = t.value; index = Some index }

abbrev pub record_told : RecordFault → Told
record_told TrailerWrong = invalid 10 (codes "trailer-wrong") None
record_told MemoryShort = invalid 12 (codes "memory-short") None
record_told (Entry index fault) = at (entry_told fault) index
