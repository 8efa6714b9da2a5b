-- What each way out of the loops over two labels tells of the definitions: the labels read from an index on.
use Prim.Native.Nat.{ℕ, ◌+◌, ◌<◌, ◌≤◌}
use mathlib.Core.Path.{◌≡◌, refl}
use mathlib.Core.List.{[], ◌∷◌}
use mathlib.Core.Bool.{true, false, or-false}
use native.Mathlib.Omega.{arith}
use lib.Dec.{ltb}
use lib.ListN.{length, get_or, drop, drop_of_length-le}
use borrow.Author.Tests.{eq-eqb, ne_eqb, le-ltb}
use Rattle.labelling.specs.Labels.{Label, before, shared}
use Rattle.basics.proofs.Scans.{from_cons}

-- nothing is shared with the root's label
shared_nil : (l : Label) → shared l [] ≡ 0
unfolding shared
shared_nil [] = refl
shared_nil (x ∷ l) = refl

-- two labels of which the first i components are shared
module _ (a b : Label) (i : ℕ) (inv : shared a b ≡ i + shared (drop i a) (drop i b)) where
  -- where the first label ends at i, the labels share i components
  pub shared_end : length a ≤ i → i ≡ shared a b
  unfolding shared
  shared_end h = rw (inv, drop_of_length-le a h) (omega arith)

  module _ (h : i < length a) where
    -- where the second label ends at i, the labels share i components
    pub shared_short : length b ≤ i → i ≡ shared a b
    shared_short k = rw (inv, drop_of_length-le b k, shared_nil) (omega arith)

    module _ (k : i < length b) where
      -- where the labels differ in component i, they share i components
      pub shared_differ : (get_or a i 0 ≡ get_or b i 0 → ⊥) → i ≡ shared a b
      unfolding shared
      shared_differ e = rw (inv, from_cons a i 0 h, from_cons b i 0 k, ne_eqb _ _ e) (omega arith)

      -- where the labels have the same component i, one more is shared
      pub shared_on : get_or a i 0 ≡ get_or b i 0 → shared a b ≡ i + 1 + shared (drop (i + 1) a) (drop (i + 1) b)
      unfolding shared
      shared_on e = rw (inv, from_cons a i 0 h, from_cons b i 0 k, eq-eqb _ _ e) (omega arith)

-- no label comes before the root's
before_nil : (l : Label) → before l [] ≡ false
unfolding before
before_nil [] = refl
before_nil (x ∷ l) = refl

-- two labels whose order is left to the components from i on
module _ (a b : Label) (i : ℕ) (inv : before a b ≡ before (drop i a) (drop i b)) where
  -- where the second label ends at i, the first is not before it
  pub before_end : length b ≤ i → false ≡ before a b
  before_end h = rw (inv, drop_of_length-le b h, before_nil)

  module _ (k : i < length b) where
    -- where the first label ends at i and the second does not, the first is before it
    pub before_prefix : length a ≤ i → true ≡ before a b
    unfolding before
    before_prefix h = rw (inv, drop_of_length-le a h, from_cons b i 0 k)

    module _ (h : i < length a) where
      -- where the labels have different components i, these decide
      pub before_decided : (get_or a i 0 ≡ get_or b i 0 → ⊥) → ltb (get_or a i 0) (get_or b i 0) ≡ before a b
      unfolding before
      before_decided d = rw (inv, from_cons a i 0 h, from_cons b i 0 k, ne_eqb _ _ d, or-false)

      -- where the labels have the same component i, the rest decides
      pub before_on : get_or a i 0 ≡ get_or b i 0 → before a b ≡ before (drop (i + 1) a) (drop (i + 1) b)
      unfolding before
      before_on e = rw (inv, from_cons a i 0 h, from_cons b i 0 k, e, le-ltb (get_or b i 0) (get_or b i 0) (omega arith), eq-eqb _ _ refl)
