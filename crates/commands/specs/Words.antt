-- The first words of a script's commands. Assumes nothing.
use Rattle.std.specs.Prelude.{ℕ, List, codes, ◌≢◌}
use Rattle.commands.specs.declared.verb.Verb.{Verb}
use Rattle.commands.specs.declared.verb.Verb.TheVariants.{Column, Columns, Regular, Sheet, Select, Name, Transform, Strict, Result, Preserves, Satisfies, Alike, Draft, Unbound, SpecId, Start, Add, AddByName, Batch, Close, Bind, Open, OpenBind, PartitionType, Unpartitioned, Sequential, Highest, Compatible, Equal, RecordOf, RecordUnbound, Read, Items, SortNew, SortId, Sort, SortBuild, SortBuildUnbound}

abbrev pub word_of : Verb → List ℕ
word_of Column = codes "column"
word_of Columns = codes "columns"
word_of Regular = codes "regular"
word_of Sheet = codes "sheet"
word_of Select = codes "select"
word_of Name = codes "name"
word_of Transform = codes "transform"
word_of Strict = codes "strict"
word_of Result = codes "result"
word_of Preserves = codes "preserves"
word_of Satisfies = codes "satisfies"
word_of Alike = codes "alike"
word_of Draft = codes "draft"
word_of Unbound = codes "unbound"
word_of SpecId = codes "spec-id"
word_of Start = codes "start"
word_of Add = codes "add"
word_of AddByName = codes "add-by-name"
word_of Batch = codes "batch"
word_of Close = codes "close"
word_of Bind = codes "bind"
word_of Open = codes "open"
word_of OpenBind = codes "open-bind"
word_of PartitionType = codes "type"
word_of Unpartitioned = codes "unpartitioned"
word_of Sequential = codes "sequential"
word_of Highest = codes "highest"
word_of Compatible = codes "compatible"
word_of Equal = codes "equal"
word_of RecordOf = codes "record"
word_of RecordUnbound = codes "record-unbound"
word_of Read = codes "read"
word_of Items = codes "items"
word_of SortNew = codes "sort-new"
word_of SortId = codes "sort-id"
word_of Sort = codes "sort"
word_of SortBuild = codes "sort-build"
word_of SortBuildUnbound = codes "sort-build-unbound"

abbrev pub NoVerb : List ℕ → Type 0
NoVerb word = (verb : Verb) → word_of verb ≢ word
