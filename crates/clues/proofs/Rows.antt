-- What is read of a row and of a clue: where a name stands, and which name a component picks.
use Prim.Native.Nat.{ℕ, suc, ◌+◌, ◌%◌, ◌<◌, ◌≤◌}
use mathlib.Core.Path.{◌≡◌, refl, sym, ap, ◌∙◌}
use mathlib.Core.List.{List, [], ◌∷◌}
use mathlib.Core.Option.{Option, none, some, map}
use native.Mathlib.Omega.{arith}
use native.Mathlib.Nat.{zero-add, mod-lt, pos_of_ne-zero}
use lib.ListN.{length, get_or, drop, replicate, get_or-eq_default}
use lib.Seq.{get_or-take}
use borrow.Author.Tests.{eq-eqb, ne_eqb}
use Rattle.basics.specs.Limits.{filler, table_size}
use Rattle.naming.specs.Names.{Table, names_of, clues_of, place_in, led}
use Rattle.names.proofs.Rows.{names_end, names_stop, names_on, take_names, names_short}
use Rattle.std.specs.Prelude.{Some, None}
use Rattle.bridges.specs.Options.{optional}

-- a place in the rest of a row from i on, counted from the row's start
abbrev pub shifted : ℕ → Option ℕ → Option ℕ
shifted i none = none
shifted i (some k) = some (i + k)

-- a place in a row from 0 on is a place in the row
pub shift_from : (o : Option ℕ) → o ≡ shifted 0 o
shift_from none = refl
shift_from (some k) = ap some (sym (zero-add k))

-- a place in the rest of a row from i on, one further on, is a place from i + 1 on
shift_more : (i : ℕ) (o : Option ℕ) → shifted i (map suc o) ≡ shifted (i + 1) o
shift_more i none = refl
shift_more i (some k) = ap some (omega arith)

-- a search of a row for the name c, which has come to place i
module _ (c : ℕ) (row : List ℕ) (i : ℕ) where
  -- the search has not found c before place i
  abbrev pub Searched : Type 0
  Searched = place_in c (names_of row) ≡ shifted i (place_in c (names_of (drop i row)))

  module _ (inv : Searched) where
    -- a search that has come to the row's end has not found the name
    pub search_end : length row ≤ i → None ≡ optional (place_in c (names_of row))
    unfolding place_in
    search_end h = rw (inv, names_end row i h)

    module _ (h : i < length row) where
      -- a search that has come to the filler has not found the name
      pub search_stop : get_or row i 0 ≡ filler → None ≡ optional (place_in c (names_of row))
      unfolding place_in
      search_stop e = rw (inv, names_stop row i h e)

      module _ (go : get_or row i 0 ≡ filler → ⊥) where
        -- a search that finds the name at place i answers i
        pub search_here : get_or row i 0 ≡ c → Some i ≡ optional (place_in c (names_of row))
        unfolding place_in
        search_here e = rw (inv, names_on row i h go, eq-eqb _ _ e) (ap Some (omega arith))

        -- where another number stands at place i, the search goes on
        pub search_on : (get_or row i 0 ≡ c → ⊥) → place_in c (names_of row) ≡ shifted (i + 1) (place_in c (names_of (drop (i + 1) row)))
        unfolding place_in
        search_on e = rw (inv, names_on row i h go, ne_eqb _ _ e) (shift_more i (place_in c (names_of (drop (i + 1) row))))

-- a number past the last row has the clue of a row of filler alone
pub clue_none : (table : Table) (p : ℕ) → length table ≤ p → names_of (replicate table_size filler) ≡ clues_of table p
unfolding clues_of names_of
clue_none table p h = rw get_or-eq_default

-- a name has the names of its row
pub clue_is : (table : Table) (p : ℕ) {row : List ℕ} → row ≡ get_or table p [] → names_of row ≡ clues_of table p
unfolding clues_of
clue_is table p e = ap names_of e

-- a name stands in its row where it stands among the names
names_at : (row : List ℕ) (i : ℕ) → i < length (names_of row) → get_or (names_of row) i 0 ≡ get_or row i 0
names_at row i h = ap (λ (l : List ℕ). get_or l i 0) (sym (take_names row)) ∙ get_or-take (length (names_of row)) row i 0 h

-- an empty clue leads nowhere
led_none : (l : List ℕ) (x : ℕ) → length l ≡ 0 → led l x ≡ none
unfolding led
led_none [] x e = refl
led_none (y ∷ l) x e = absurd (omega (arith, e))

-- from any other clue the remainder picks a name
led_some : (l : List ℕ) (x : ℕ) → (length l ≡ 0 → ⊥) → led l x ≡ some (get_or l (x % length l) 0)
unfolding led
led_some [] x e = absurd (e refl)
led_some (y ∷ l) x e = refl

-- a component picks a name from a row of n names
module _ (row : List ℕ) (x : ℕ) {n : ℕ} (is : n ≡ length (names_of row)) where
  -- in a row of no names a component leads nowhere
  pub pick_none : n ≡ 0 → None ≡ optional (led (names_of row) x)
  pick_none e = rw (led_none (names_of row) x (sym is ∙ e))

  module _ (some_left : n ≡ 0 → ⊥) where
    -- the remainder is a place among the names
    pick_below : x % n < length (names_of row)
    pick_below = let h = mod-lt x (pos_of_ne-zero some_left) in omega (arith, h, is)

    -- the remainder is a place of the row
    pub pick_in : x % n < length row
    pick_in = omega (arith, pick_below, names_short row)

    -- the component leads to the name at its remainder
    pub pick_some : Some (get_or row (x % n) 0) ≡ optional (led (names_of row) x)
    pick_some = rw (led_some (names_of row) x (λ e. some_left (is ∙ e)), ← is, names_at row (x % n) pick_below)
