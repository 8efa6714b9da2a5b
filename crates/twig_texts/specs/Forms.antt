-- The forms of a twig's text: which texts there are, however many names they have, and the twig that a text writes down.
use Rattle.std.specs.Prelude.{◌≡◌, ◌⊎◌, cond, List, [], ◌∷◌, ◌++◌, ℕ, suc, ◌+◌, ◌≤◌, length, eqb}
use Rattle.basics.specs.Limits.{max_name, any_name, no_parent}
use Rattle.basics.specs.Texts.{text, decimal}
use Rattle.patterns.specs.Twigs.{Twig, child_edge, descendant_edge}

-- the byte that begins a step, "/"
abbrev pub slash : ℕ
slash = 47

-- the byte that asks for any name, "*"
abbrev pub star : ℕ
star = 42

-- the byte that begins a branch, "["
abbrev pub opening : ℕ
opening = 91

-- the byte that ends a branch, "]"
abbrev pub closing : ℕ
closing = 93

-- What stands behind the name of a step: nothing, a branch in brackets and what stands behind it, or the step that
-- continues. A branch, and what continues, begins with a step: an edge, a name, and what stands behind that name.
pub data Form : Type 0 where
  end : Form
  branch : (edge name : ℕ) (inner more : Form) → Form
  next : (edge name : ℕ) (more : Form) → Form

-- what a step may ask for: / to a child or // to a descendant, and a name 0 to 63 or any
abbrev pub Asked : ℕ → ℕ → Type 0
Asked edge name = ((edge ≡ child_edge) ⊎ (edge ≡ descendant_edge)) × ((name ≤ max_name) ⊎ (name ≡ any_name))

-- each step of a form asks for what a step may ask for
unfoldable pub Formed : Form → Type 0
Formed end = Unit {0}
Formed (branch edge name inner more) = Asked edge name × (Formed inner × Formed more)
Formed (next edge name more) = Asked edge name × Formed more

-- the slashes of an edge: one to a child, two to a descendant
unfoldable pub slashes : ℕ → List ℕ
slashes edge = cond (eqb edge child_edge) (text "/") (text "//")

-- a name in decimal without leading zeros, or * for any
unfoldable pub name_text : ℕ → List ℕ
name_text name = cond (eqb name any_name) (text "*") (decimal name)

-- a step up to the end of its name
unfoldable pub step_text : ℕ → ℕ → List ℕ
step_text edge name = slashes edge ++ name_text name

-- the text of a form
unfoldable pub spell : Form → List ℕ
spell end = []
spell (branch edge name inner more) = opening ∷ (step_text edge name ++ (spell inner ++ (closing ∷ spell more)))
spell (next edge name more) = step_text edge name ++ spell more

-- a text of the forms: a step, and what stands behind its name
pub record OfForms (s : List ℕ) : Type 0 where
  pub edge : ℕ
  pub name : ℕ
  pub more : Form
  pub formed : Formed (next edge name more)
  pub spelled : spell (next edge name more) ≡ s

-- bytes that begin some text of the forms
pub record Begins (s : List ℕ) : Type 0 where
  pub rest : List ℕ
  pub whole : OfForms (s ++ rest)

-- how many names a form has
unfoldable pub names_in : Form → ℕ
names_in end = 0
names_in (branch edge name inner more) = suc (names_in inner + names_in more)
names_in (next edge name more) = suc (names_in more)

-- the nodes of a form below the node with a number: nodes are numbered as names are met, from a number on
unfoldable pub nodes_of : ℕ → ℕ → Form → Twig
nodes_of parent i end = []
nodes_of parent i (branch edge name inner more) =
    record { parent = parent; edge = edge; name = name } ∷ (nodes_of i (suc i) inner ++ nodes_of parent (suc i + names_in inner) more)
nodes_of parent i (next edge name more) = record { parent = parent; edge = edge; name = name } ∷ nodes_of i (suc i) more

-- the twig that a form writes down
unfoldable pub twig_of : Form → Twig
twig_of f = nodes_of no_parent 0 f

-- the places at which the names of a form begin, where its text begins at place i
unfoldable pub name_starts : ℕ → Form → List ℕ
name_starts i end = []
name_starts i (branch edge name inner more) =
    let behind = suc i + length (step_text edge name) in
    (suc i + length (slashes edge)) ∷ (name_starts behind inner ++ name_starts (suc (behind + length (spell inner))) more)
name_starts i (next edge name more) = (i + length (slashes edge)) ∷ name_starts (i + length (step_text edge name)) more
