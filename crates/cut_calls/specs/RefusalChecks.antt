-- The refusals of cutting at their corners.
use Rattle.std.specs.Prelude.{List, [], ◌∷◌, replicate}
use Rattle.basics.specs.Limits.{any_name}
use Rattle.basics.specs.Examples.{Check, is, shown}
use Rattle.naming.specs.Examples.{torn_table, loop_table}
use Rattle.storage.specs.Examples.{deep_store, torn, orphaned, misnamed, misnumbered}
use Rattle.cut_calls.specs.Cutting.{cut}

-- the refusals of cutting, by 22, 18, 19, 23 to 25, 7 and 17
unfoldable pub cut_refusals : List Check
cut_refusals =
    is (shown (cut torn_table [] 0 64 []).refusal) (22 ∷ 0 ∷ [])
    ∷ is (shown (cut loop_table torn 2 64 []).refusal) (18 ∷ 0 ∷ [])
    ∷ is (shown (cut loop_table torn 1 64 []).refusal) (19 ∷ 0 ∷ [])
    ∷ is (shown (cut loop_table orphaned 2 64 []).refusal) (23 ∷ 1 ∷ [])
    ∷ is (shown (cut loop_table misnamed 1 64 []).refusal) (24 ∷ 0 ∷ [])
    ∷ is (shown (cut loop_table misnumbered 1 64 []).refusal) (25 ∷ 0 ∷ [])
    ∷ is (shown (cut loop_table deep_store 16 64 []).refusal) (7 ∷ 0 ∷ [])
    ∷ is (shown (cut loop_table deep_store 16 0 (replicate 255 7)).refusal) (17 ∷ 0 ∷ [])
    ∷ is (shown (cut loop_table deep_store 16 any_name (replicate 256 7)).refusal) []
    ∷ is (shown (cut loop_table deep_store 16 1 []).refusal) []
    ∷ []
