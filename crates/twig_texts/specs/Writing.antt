-- Writing a twig as text: a node's children in node order, the last outside brackets and all others inside.
use Rattle.std.specs.Prelude.{Bool, true, false, cond, List, [], ◌∷◌, ℕ, suc, length, eqb}
use Rattle.basics.specs.Limits.{no_parent}
use Rattle.basics.specs.Outputs.{Listing, listed, room_check}
use Rattle.basics.specs.Refusals.{first}
use Rattle.patterns.specs.Twigs.{Node, Twig, read_twig, twig_check}
use Rattle.twig_texts.specs.Forms.{Form, end, branch, next, spell}

-- whether nothing stands behind a name
unfoldable pub is_end : Form → Bool
is_end end = true
is_end (branch edge name inner more) = false
is_end (next edge name more) = false

-- a child before the later children of the same node: in brackets, unless it is the last
unfoldable pub before : Node → Form → Form → Form
before n inner more = cond (is_end more) (next n.edge n.name inner) (branch n.edge n.name inner more)

-- what stands behind the name of the node with number p, by the nodes from number i on
unfoldable pub behind_node : ℕ → Twig → ℕ → Form
behind_node i [] p = end
behind_node i (n ∷ t) p =
    let more = behind_node (suc i) t p in
    cond (eqb n.parent p) (before n (behind_node (suc i) t i) more) more

-- the form in which the writer writes a twig
unfoldable pub form_of : Twig → Form
form_of t = behind_node 0 t no_parent

-- the text of a twig
unfoldable pub text_of : Twig → List ℕ
text_of t = spell (form_of t)

-- the call that writes a twig: 4 to 8, then 17
unfoldable pub write_call : List ℕ → List ℕ → Listing
write_call twig out =
    let s = text_of (read_twig twig) in
    listed (first (twig_check twig ∷ room_check s out ∷ [])) (length s) s out
