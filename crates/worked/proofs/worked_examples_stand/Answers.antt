-- Each example by its proof.
use Rattle.worked.proofs.Texts.{sixteen_in_other_words, first_wrong_place_decides}
use Rattle.worked.proofs.Sorts.{zero_is_the_unsorted_order, sorted_by_what_is_primitive}
use Rattle.worked.proofs.worked_examples_stand.Goals as goal

pub returns : goal.returns
returns c = record { sixteen = sixteen_in_other_words; wrong_place = first_wrong_place_decides; zero = zero_is_the_unsorted_order; primitive = sorted_by_what_is_primitive }
