-- A twig's tree in preorder: a node before those below it, children in node order.
use Rattle.std.specs.Prelude.{◌≡◌, cond, List, [], ◌∷◌, ◌++◌, map, ℕ, zero, suc, length, eqb}
use Rattle.basics.specs.Basics.{up_to}
use Rattle.basics.specs.Limits.{no_parent}
use Rattle.patterns.specs.Twigs.{Node, Twig, node_at}

-- the numbers of the nodes below the node with number p, in preorder, among the nodes from number i on
unfoldable pub visited : ℕ → Twig → ℕ → List ℕ
visited i [] p = []
visited i (n ∷ t) p =
    let more = visited (suc i) t p in
    cond (eqb n.parent p) (i ∷ (visited (suc i) t i ++ more)) more

-- the numbers of a twig's nodes in preorder
unfoldable pub order : Twig → List ℕ
order t = visited 0 t no_parent

-- the place at which a number stands first in a list, its length where it doesn't
unfoldable pub place_of : ℕ → List ℕ → ℕ
place_of n [] = zero
place_of n (m ∷ ms) = cond (eqb m n) zero (suc (place_of n ms))

-- the number that a parent gets where nodes are put in an order; no parent stays none
unfoldable pub parent_in : List ℕ → ℕ → ℕ
parent_in ms p = cond (eqb p no_parent) no_parent (place_of p ms)

-- a node with its parent's number in an order
unfoldable pub renumbered : List ℕ → Node → Node
renumbered ms n = record { parent = parent_in ms n.parent; edge = n.edge; name = n.name }

-- a twig's tree in preorder
unfoldable pub preorder : Twig → Twig
preorder t = map (λ i. renumbered (order t) (node_at t i)) (order t)

-- a twig whose nodes are in preorder: they are met in the order of their numbers
abbrev pub InPreorder : Twig → Type 0
InPreorder t = order t ≡ up_to (length t)
