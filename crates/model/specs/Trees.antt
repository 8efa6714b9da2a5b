-- The tree that elements form: the names on the way to a label, and the embeddings of a twig.
use Rattle.std.specs.Prelude.{◌≡◌, List, [], map, ℕ, ◌<◌, length, get_or, T}
use Rattle.basics.specs.Basics.{◌∈◌}
use Rattle.labelling.specs.Labels.{Label}
use Rattle.patterns.specs.Twigs.{Twig, node_at}
use Rattle.embeddings.specs.Matches.{Match, asks, hangs, prefixes}
use Rattle.storage.specs.Store.{Element, element_at}

-- the names on the way from the root to a label: of the element at each of the label's prefixes, its own the last
unfoldable pub names_to : List Element → Label → List ℕ
names_to es l = map (λ p. (element_at p es).name) (prefixes l)

-- An embedding: each node of the twig has the label of an element with a name that the node asks for,
-- and every edge holds.
pub record Embedding (t : Twig) (es : List Element) (m : Match) : Type 0 where
  pub whole : length m ≡ length t
  pub placed : (i : ℕ) → i < length t → (e : Element) × e ∈ es × T (asks (node_at t i).name e.name) × (e.label ≡ get_or m i [])
  pub hung : (i : ℕ) → i < length t → T (hangs t m i)
