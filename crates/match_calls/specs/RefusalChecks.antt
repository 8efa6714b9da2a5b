-- The refusals of matching at their corners.
use Rattle.std.specs.Prelude.{List, [], ◌∷◌, ◌++◌, ℕ, replicate}
use Rattle.basics.specs.Limits.{no_parent}
use Rattle.basics.specs.Examples.{Check, is, shown}
use Rattle.naming.specs.Examples.{torn_table, line_table}
use Rattle.patterns.specs.Twigs.{descendant_edge}
use Rattle.embeddings.specs.Matches.{labels_words}
use Rattle.match_calls.specs.Matching.{match_call}

-- a twig that asks for name 1
unfoldable pub one_twig : List ℕ
one_twig = no_parent ∷ descendant_edge ∷ 1 ∷ 0 ∷ []

-- The refusals of matching, by 22, 21, 4 to 8, 20, 17: 20 is for the counts, the buffer's length,
-- and only then the first label that 15, 16, name or order rules out.
unfoldable pub match_refusals : List Check
match_refusals =
    is (shown (match_call torn_table 64 [] [] [] []).refusal) (22 ∷ 0 ∷ [])
    ∷ is (shown (match_call line_table 64 [] [] [] []).refusal) (21 ∷ 0 ∷ [])
    ∷ is (shown (match_call line_table 0 [] (1 ∷ []) [] []).refusal) (4 ∷ 0 ∷ [])
    ∷ is (shown (match_call line_table 0 one_twig [] [] []).refusal) (20 ∷ 0 ∷ [])
    ∷ is (shown (match_call line_table 0 one_twig (1 ∷ 0 ∷ []) (labels_words ((0 ∷ []) ∷ [])) []).refusal) (20 ∷ 0 ∷ [])
    ∷ is (shown (match_call line_table 0 one_twig (2 ∷ []) (labels_words ((0 ∷ []) ∷ [])) []).refusal) (20 ∷ 0 ∷ [])
    ∷ is (shown (match_call line_table 0 one_twig (4097 ∷ []) [] []).refusal) (20 ∷ 0 ∷ [])
    ∷ is (shown (match_call line_table 0 one_twig (3 ∷ []) (labels_words ((0 ∷ []) ∷ (2 ∷ []) ∷ (1 ∷ []) ∷ [])) []).refusal) (20 ∷ 2 ∷ [])
    ∷ is (shown (match_call line_table 0 one_twig (3 ∷ []) (labels_words ((0 ∷ []) ∷ (2 ∷ []) ∷ (2 ∷ []) ∷ [])) []).refusal) (20 ∷ 2 ∷ [])
    ∷ is (shown (match_call line_table 0 one_twig (2 ∷ []) (labels_words ((0 ∷ []) ∷ (0 ∷ 0 ∷ []) ∷ [])) []).refusal) (20 ∷ 1 ∷ [])
    ∷ is (shown (match_call line_table 5 one_twig (1 ∷ []) (labels_words ((0 ∷ []) ∷ [])) []).refusal) (20 ∷ 0 ∷ [])
    ∷ is (shown (match_call line_table 0 one_twig (2 ∷ []) (labels_words ((0 ∷ []) ∷ []) ++ replicate 16 1) []).refusal) (20 ∷ 1 ∷ [])
    ∷ is (shown (match_call line_table 0 one_twig (1 ∷ []) (labels_words ((0 ∷ []) ∷ [])) (replicate 15 7)).refusal) (17 ∷ 0 ∷ [])
    ∷ is (shown (match_call line_table 0 one_twig (1 ∷ []) (labels_words ((0 ∷ []) ∷ [])) (replicate 16 7)).refusal) []
    ∷ is (shown (match_call line_table 0 one_twig (0 ∷ []) [] []).refusal) []
    ∷ []
