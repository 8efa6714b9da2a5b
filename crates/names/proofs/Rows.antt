-- Rows read from an index on, and how many names they hold.
use Prim.Native.Nat.{ℕ, ◌+◌, ◌<◌, ◌≤◌}
use mathlib.Core.Path.{◌≡◌, refl, ap}
use mathlib.Core.List.{List, [], ◌∷◌}
use mathlib.Core.Bool.{Bool, true, false, cond}
use native.Mathlib.Omega.{arith}
use lib.ListN.{length, get_or, take, drop, length-take, drop_of_length-le}
use lib.Dec.{eqb}
use borrow.Author.Tests.{eq-eqb, ne_eqb}
use Rattle.basics.specs.Limits.{filler}
use Rattle.naming.specs.Names.{names_of}
use Rattle.basics.proofs.Scans.{from_cons}

-- the names of a row, from an index on
module _ (row : List ℕ) (i : ℕ) where
  -- past its end a row has no names
  pub names_end : length row ≤ i → names_of (drop i row) ≡ []
  unfolding names_of
  names_end h = rw drop_of_length-le

  module _ (h : i < length row) where
    -- at the filler the names end
    pub names_stop : get_or row i 0 ≡ filler → names_of (drop i row) ≡ []
    unfolding names_of
    names_stop e = rw (from_cons row i 0, eq-eqb _ _ e)

    -- a number other than the filler is the next name
    pub names_on : (get_or row i 0 ≡ filler → ⊥) → names_of (drop i row) ≡ get_or row i 0 ∷ names_of (drop (i + 1) row)
    unfolding names_of
    names_on e = rw (from_cons row i 0, ne_eqb _ _ e)

  -- a count of the names has come to i
  abbrev pub Counted : Type 0
  Counted = length (names_of row) ≡ i + length (names_of (drop i row))

  module _ (inv : Counted) where
    -- a count that has come to the row's end is the number of its names
    pub count_end : length row ≤ i → i ≡ length (names_of row)
    count_end h = rw (inv, names_end h) (omega arith)

    module _ (h : i < length row) where
      -- a count that has come to the filler is the number of names
      pub count_stop : get_or row i 0 ≡ filler → i ≡ length (names_of row)
      count_stop e = rw (inv, names_stop h e) (omega arith)

      -- at a number other than the filler the count goes on
      pub count_on : (get_or row i 0 ≡ filler → ⊥) → length (names_of row) ≡ i + 1 + length (names_of (drop (i + 1) row))
      count_on e = rw (inv, names_on h e) (omega arith)

-- the names begin their row
pub take_names : (row : List ℕ) → take (length (names_of row)) row ≡ names_of row
unfolding names_of
take_names [] = refl
take_names (x ∷ row) = go (eqb x filler) (take_names row)
  where
    go : (b : Bool) → take (length (names_of row)) row ≡ names_of row → take (length (cond b [] (x ∷ names_of row))) (x ∷ row) ≡ cond b [] (x ∷ names_of row)
    go true e = refl
    go false e = ap (λ (l : List ℕ). x ∷ l) e

-- a row has no more names than places
pub names_short : (row : List ℕ) → length (names_of row) ≤ length row
names_short row = omega (arith, length-take (length (names_of row)) row, ap length (take_names row))
