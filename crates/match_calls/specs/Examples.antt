-- Examples of what matching answers, and of every word that it leaves.
use Rattle.std.specs.Prelude.{List, [], ◌∷◌, ◌++◌, ℕ, replicate}
use Rattle.basics.specs.Basics.{joined}
use Rattle.basics.specs.Outputs.{Listing}
use Rattle.basics.specs.Examples.{Check, is, shown}
use Rattle.naming.specs.Examples.{short_table}
use Rattle.labelling.specs.Labels.{Label}
use Rattle.patterns.specs.Examples.{garage_twig}
use Rattle.embeddings.specs.Examples.{axles, curves, garage_matches, in_words}
use Rattle.match_calls.specs.Matching.{match_call}

-- what matching under the bench's table answers and leaves, in one list
unfoldable pub listed_for : List ℕ → List ℕ → List Label → List ℕ → List ℕ
listed_for twig counts ls out = let a : Listing = match_call short_table 0 twig counts (in_words ls) out in shown a.refusal ++ (a.count ∷ a.output)

-- examples of matching
unfoldable pub match_call_checks : List Check
match_call_checks =
    -- the printed example has four matches, in label order, and the words past them stay as they were
    is (listed_for garage_twig (3 ∷ 2 ∷ []) (axles ++ curves) (replicate 200 7)) (4 ∷ (in_words (joined garage_matches) ++ replicate 8 7))
    -- a label that stands twice in the second stream: 20 at 4, and nothing is written
    ∷ is (listed_for garage_twig (3 ∷ 2 ∷ []) (axles ++ ((1 ∷ 0 ∷ 2 ∷ []) ∷ (1 ∷ 0 ∷ 2 ∷ []) ∷ [])) (7 ∷ [])) (20 ∷ 4 ∷ 0 ∷ 7 ∷ [])
    -- 255 asks for any name, and node 0's edge 1 lets it be any element
    ∷ is (listed_for (255 ∷ 1 ∷ 255 ∷ 0 ∷ []) (2 ∷ []) ([] ∷ (1 ∷ []) ∷ []) (replicate 32 7)) (2 ∷ in_words ([] ∷ (1 ∷ []) ∷ []))
    -- edge 0 of node 0 ties the node to the root element
    ∷ is (listed_for (255 ∷ 0 ∷ 255 ∷ 0 ∷ []) (2 ∷ []) ([] ∷ (1 ∷ []) ∷ []) (replicate 16 7)) (1 ∷ in_words ([] ∷ []))
    ∷ []
