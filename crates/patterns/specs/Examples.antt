-- Examples of twigs.
use Rattle.std.specs.Prelude.{List, [], ◌∷◌, ℕ}
use Rattle.basics.specs.Examples.{Check, is}
use Rattle.patterns.specs.Twigs.{read_twig, child_edge, descendant_edge, wanted, leaf_names}

-- the twig of the printed example
unfoldable pub garage_twig : List ℕ
garage_twig = 255 ∷ 1 ∷ 1 ∷ 0 ∷ 0 ∷ 1 ∷ 3 ∷ 0 ∷ 0 ∷ 1 ∷ 4 ∷ 0 ∷ []

-- examples of edges and leaves
unfoldable pub pattern_checks : List Check
pattern_checks =
    -- edge 0 is to a child, edge 1 to a descendant
    is (child_edge ∷ descendant_edge ∷ []) (0 ∷ 1 ∷ [])
    -- the leaves are the axle and the curve
    ∷ is (leaf_names (wanted (read_twig garage_twig))) (3 ∷ 4 ∷ [])
    -- a node alone is a leaf
    ∷ is (leaf_names (wanted (read_twig (255 ∷ 1 ∷ 1 ∷ 0 ∷ [])))) (1 ∷ [])
    ∷ []
