-- What a refusal tells, and the words of kinds and layers. Assumes nothing.
use Rattle.std.specs.Prelude.{ℕ, List, codes, Option}
use Rattle.faults.specs.declared.error.ErrorKind.{ErrorKind}
use Rattle.faults.specs.declared.error.ErrorKind.TheVariants.{PreconditionFailed, Unexpected, DataInvalid, NamespaceAlreadyExists, TableAlreadyExists, NamespaceNotFound, TableNotFound, FeatureUnsupported, CatalogCommitConflicts}
use Rattle.faults.specs.declared.error.Layer.{Layer}
use Rattle.faults.specs.declared.error.Layer.TheVariants.{Name, Text, «Type», Draft, Batch, Record, Sort, Selection}

-- the value is the length, or the index of an earlier field, that goes with the number, where there is one; the index
-- says which field of a batch or entry of a record was refused
pub record Told : Type 0 where
  pub number : ℕ
  pub kind : ErrorKind
  pub layer : Layer
  pub reason : List ℕ
  pub value : Option ℕ
  pub index : Option ℕ

abbrev pub kind_word : ErrorKind → List ℕ
kind_word PreconditionFailed = codes "PreconditionFailed"
kind_word Unexpected = codes "Unexpected"
kind_word DataInvalid = codes "DataInvalid"
kind_word NamespaceAlreadyExists = codes "NamespaceAlreadyExists"
kind_word TableAlreadyExists = codes "TableAlreadyExists"
kind_word NamespaceNotFound = codes "NamespaceNotFound"
kind_word TableNotFound = codes "TableNotFound"
kind_word FeatureUnsupported = codes "FeatureUnsupported"
kind_word CatalogCommitConflicts = codes "CatalogCommitConflicts"

abbrev pub layer_word : Layer → List ℕ
layer_word Name = codes "name"
layer_word Text = codes "text"
layer_word «Type» = codes "type"
layer_word Draft = codes "draft"
layer_word Batch = codes "batch"
layer_word Record = codes "record"
layer_word Sort = codes "sort"
layer_word Selection = codes "selection"
