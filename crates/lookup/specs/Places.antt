-- Where a label stands among the elements of a store, and where its subtree ends.
use Rattle.std.specs.Prelude.{Bool, cond, ◌&&◌, ◌||◌, List, [], ◌∷◌, ℕ, suc, ◌*◌, ◌<◌, ◌≤◌, length, get_or}
use Rattle.std.proofs.Math.Option.{Option, none, some, map}
use Rattle.basics.specs.Basics.{Ascending}
use Rattle.basics.specs.Limits.{max_depth, record_size}
use Rattle.labelling.specs.Labels.{Label, before, within, same}
use Rattle.storage.specs.Store.{Element, ahead, elements}

-- the number of the element with a label
unfoldable pub place_at : Label → List Element → Option ℕ
place_at l [] = none
place_at l (e ∷ es) = cond (same e.label l) (some 0) (map suc (place_at l es))

-- an element comes before a label or, where its subtree is to be passed as well, is in that
unfoldable pub passes : Bool → Label → Element → Bool
passes subtree l e = before e.label l || (subtree && within l e.label)

-- records in label order that a search can read
pub record InLabelOrder (count : ℕ) (ws : List ℕ) : Type 0 where
  pub room : count * record_size ≤ length ws
  pub ordered : Ascending ahead (elements count ws)
  pub shallow : (r : ℕ) → r < count → get_or ws (r * record_size) 0 ≤ max_depth
