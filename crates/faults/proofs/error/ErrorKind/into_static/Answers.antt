-- The word of a kind is the definition's.
use Rattle.std.proofs.Common.{sym, ap}
use Rattle.faults.specs.Told.{kind_word}
use Rattle.faults.proofs.error.ErrorKind.into_static.Goals as goal

pub returns-in-TableNotFound : goal.returns-in-TableNotFound
returns-in-TableNotFound c = sym (ap kind_word c.in-TableNotFound.is)

pub returns-in-CatalogCommitConflicts : goal.returns-in-CatalogCommitConflicts
returns-in-CatalogCommitConflicts c = sym (ap kind_word c.in-CatalogCommitConflicts.is)
