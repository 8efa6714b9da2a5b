-- The refusals of new store, entry and deletion at their corners.
use Rattle.std.specs.Prelude.{List, [], ◌∷◌, ◌++◌, replicate}
use Rattle.basics.specs.Limits.{filler}
use Rattle.basics.specs.Examples.{Check, is, shown}
use Rattle.naming.specs.Examples.{torn_table, loop_table}
use Rattle.labelling.specs.Labels.{label_words}
use Rattle.storage.specs.Store.{element_words}
use Rattle.storage.specs.Examples.{element, deep_store, used_up, torn, orphaned, misnamed, misnumbered}
use Rattle.store_calls.specs.Updates.{delete, enter, new_store}

-- the refusals of a new store, by 18 and 21
unfoldable pub new_store_refusals : List Check
new_store_refusals =
    is (shown (new_store [] 64 0 0).refusal) (18 ∷ 0 ∷ [])
    ∷ is (shown (new_store (replicate 21 7) 64 0 0).refusal) (18 ∷ 0 ∷ [])
    ∷ is (shown (new_store (replicate 20 7) 64 0 0).refusal) (21 ∷ 0 ∷ [])
    ∷ is (shown (new_store (replicate 40 7) 63 0 0).refusal) []
    ∷ []

-- the refusals of an entry, by 22, 18, 19, 23 to 25, 15, 9, 10, 11, 12 and 13
unfoldable pub entry_refusals : List Check
entry_refusals =
    is (shown (enter torn_table [] 0 [] 0 0 0).refusal) (22 ∷ 0 ∷ [])
    ∷ is (shown (enter loop_table (torn ++ (9 ∷ [])) 1 [] 0 0 0).refusal) (18 ∷ 0 ∷ [])
    ∷ is (shown (enter loop_table torn 2 [] 0 0 0).refusal) (18 ∷ 0 ∷ [])
    ∷ is (shown (enter loop_table deep_store 0 [] 0 0 0).refusal) (18 ∷ 0 ∷ [])
    ∷ is (shown (enter loop_table torn 1 [] 0 0 0).refusal) (19 ∷ 0 ∷ [])
    ∷ is (shown (enter loop_table (used_up ++ torn) 2 [] 0 0 0).refusal) (19 ∷ 1 ∷ [])
    ∷ is (shown (enter loop_table orphaned 2 [] 0 0 0).refusal) (23 ∷ 1 ∷ [])
    ∷ is (shown (enter loop_table misnamed 1 [] 0 0 0).refusal) (24 ∷ 0 ∷ [])
    ∷ is (shown (enter loop_table misnumbered 1 [] 0 0 0).refusal) (25 ∷ 0 ∷ [])
    ∷ is (shown (enter loop_table deep_store 16 (replicate 16 1) 0 0 0).refusal) (15 ∷ 0 ∷ [])
    ∷ is (shown (enter loop_table deep_store 16 (label_words (1 ∷ [])) 9 0 0).refusal) (9 ∷ 0 ∷ [])
    ∷ is (shown (enter loop_table deep_store 16 (label_words (replicate 15 0)) filler 0 0).refusal) (10 ∷ 0 ∷ [])
    ∷ is (shown (enter loop_table deep_store 16 (label_words (replicate 15 0)) 0 0 0).refusal) (11 ∷ 0 ∷ [])
    ∷ is (shown (enter loop_table used_up 1 (label_words []) 0 0 0).refusal) (12 ∷ 0 ∷ [])
    ∷ is (shown (enter loop_table (element_words (element [] 0 65534)) 1 (label_words []) 0 0 0).refusal) (13 ∷ 0 ∷ [])
    ∷ is (shown (enter loop_table (element_words (element [] 0 65534) ++ torn) 1 (label_words []) 0 0 0).refusal) []
    ∷ is (shown (enter loop_table deep_store 16 (label_words (replicate 14 0)) 0 0 0).refusal) []
    ∷ []

-- the refusals of a deletion, by 22, 18, 19, 23 to 25, 15, 14 and 9
unfoldable pub deletion_refusals : List Check
deletion_refusals =
    is (shown (delete torn_table [] 0 []).refusal) (22 ∷ 0 ∷ [])
    ∷ is (shown (delete loop_table torn 2 []).refusal) (18 ∷ 0 ∷ [])
    ∷ is (shown (delete loop_table torn 1 []).refusal) (19 ∷ 0 ∷ [])
    ∷ is (shown (delete loop_table orphaned 2 []).refusal) (23 ∷ 1 ∷ [])
    ∷ is (shown (delete loop_table misnamed 1 []).refusal) (24 ∷ 0 ∷ [])
    ∷ is (shown (delete loop_table misnumbered 1 []).refusal) (25 ∷ 0 ∷ [])
    ∷ is (shown (delete loop_table deep_store 16 []).refusal) (15 ∷ 0 ∷ [])
    ∷ is (shown (delete loop_table deep_store 16 (label_words [])).refusal) (14 ∷ 0 ∷ [])
    ∷ is (shown (delete loop_table deep_store 16 (label_words (1 ∷ []))).refusal) (9 ∷ 0 ∷ [])
    ∷ is (shown (delete loop_table deep_store 16 (label_words (0 ∷ []))).refusal) []
    ∷ []
