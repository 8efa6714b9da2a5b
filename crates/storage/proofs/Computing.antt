-- Every definition of the crate at once, and of the crates below it, for examples that the checker works through.
use Rattle.storage.specs.Store.{element_words, store_words, read_element, root_of, records, elements, find, element_at, is_slice, size_check, test, laid_out, leads, closed, broken, fault, number_of, sound_check}
use Rattle.storage.specs.Examples.{element_of, element, deep_store, used_up, torn, orphaned, misnamed, misnumbered, record_checks, soundness, rule_checks}
use Rattle.labelling.proofs.Computing.{computing as below}

-- `unfolding computing` opens every definition named here
unfoldable pub computing : Unit {0}
unfolding below element_words store_words read_element root_of records elements find element_at is_slice size_check test laid_out leads closed broken fault
    number_of sound_check element_of element deep_store used_up torn orphaned misnamed misnumbered record_checks soundness rule_checks
computing = tt
