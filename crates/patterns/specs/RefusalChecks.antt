-- The refusals of a twig at their corners.
use Rattle.std.specs.Prelude.{cond, List, [], ◌∷◌, map, ℕ, ◌-◌, eqb}
use Rattle.basics.specs.Basics.{joined, up_to}
use Rattle.basics.specs.Limits.{no_parent, any_name}
use Rattle.basics.specs.Examples.{Check, is, shown}
use Rattle.patterns.specs.Twigs.{descendant_edge, twig_check}

-- the bytes of a twig of so many nodes, each the parent of the next
unfoldable pub chain_twig : ℕ → List ℕ
chain_twig n = joined (map (λ i. cond (eqb i 0) no_parent (i - 1) ∷ descendant_edge ∷ any_name ∷ 0 ∷ []) (up_to n))

-- the refusals of a twig: 4, then node by node 5 to 8; eight nodes are taken and nine refused
unfoldable pub twig_refusals : List Check
twig_refusals =
    is (shown (twig_check [])) (4 ∷ 0 ∷ [])
    ∷ is (shown (twig_check (chain_twig 9))) (4 ∷ 0 ∷ [])
    ∷ is (shown (twig_check (chain_twig 8))) []
    ∷ is (shown (twig_check (0 ∷ 2 ∷ 64 ∷ 1 ∷ 0 ∷ []))) (4 ∷ 0 ∷ [])
    ∷ is (shown (twig_check (0 ∷ 2 ∷ 64 ∷ 1 ∷ []))) (5 ∷ 0 ∷ [])
    ∷ is (shown (twig_check (255 ∷ 2 ∷ 64 ∷ 1 ∷ []))) (6 ∷ 0 ∷ [])
    ∷ is (shown (twig_check (255 ∷ 1 ∷ 64 ∷ 1 ∷ []))) (7 ∷ 0 ∷ [])
    ∷ is (shown (twig_check (255 ∷ 1 ∷ 255 ∷ 1 ∷ 1 ∷ 0 ∷ 0 ∷ 0 ∷ []))) (8 ∷ 0 ∷ [])
    ∷ is (shown (twig_check (255 ∷ 1 ∷ 63 ∷ 0 ∷ 1 ∷ 0 ∷ 64 ∷ 0 ∷ []))) (5 ∷ 1 ∷ [])
    ∷ is (shown (twig_check (255 ∷ 1 ∷ 63 ∷ 0 ∷ 255 ∷ 0 ∷ 0 ∷ 0 ∷ []))) (5 ∷ 1 ∷ [])
    ∷ []
