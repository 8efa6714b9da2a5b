-- Every definition of the crate at once, and of the crates below it, for examples that the checker works through.
use Rattle.store_calls.specs.Updates.{new_store_refusal, new_store, parent_check, space_check, entry_refusal, given, raised, placed, entered, enter, root_stays_check, found_check, deletion_refusal, without, delete}
use Rattle.store_calls.specs.RefusalChecks.{new_store_refusals, entry_refusals, deletion_refusals}
use Rattle.store_calls.specs.Examples.{bench_store, answered, update_checks}
use Rattle.storage.proofs.Computing.{computing as below}

-- `unfolding computing` opens every definition named here
unfoldable pub computing : Unit {0}
unfolding below new_store_refusal new_store parent_check space_check entry_refusal given raised placed entered enter root_stays_check found_check deletion_refusal
    without delete new_store_refusals entry_refusals deletion_refusals bench_store answered update_checks
computing = tt
