-- Every definition of the crate at once, and of the crates below it, for examples that the checker works through.
use Rattle.printouts.specs.Printing.{text, digits, decimal, joined_by, label_text, match_line, matches_text, refusal_text, file_words, store_file_check, file_count, file_elements, file_matches, buffer_check, print_refusal, printed}
use Rattle.printouts.specs.Examples.{word_bytes, garage_store, garage_text}
use Rattle.printouts.specs.RefusalChecks.{print_refusals}
use Rattle.cut_calls.proofs.Computing.{computing as below}

-- `unfolding computing` opens every definition named here
unfoldable pub computing : Unit {0}
unfolding below text digits decimal joined_by label_text match_line matches_text refusal_text file_words store_file_check file_count file_elements file_matches
    buffer_check print_refusal printed word_bytes garage_store garage_text print_refusals
computing = tt
