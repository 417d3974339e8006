use Rattle.numbering.proofs.Examples.{later_stated_is_passed, counts_on_from_stated, greatest_is_given, counts_through_negatives}
use Rattle.numbering.proofs.worked.worked_examples_stand.Goals as goal

pub returns-clause-later_stated : goal.returns-clause-later_stated
returns-clause-later_stated c = later_stated_is_passed

pub returns-clause-counts_on : goal.returns-clause-counts_on
returns-clause-counts_on c = counts_on_from_stated

pub returns-clause-greatest : goal.returns-clause-greatest
returns-clause-greatest c = greatest_is_given

pub returns-clause-negatives : goal.returns-clause-negatives
returns-clause-negatives c = counts_through_negatives
