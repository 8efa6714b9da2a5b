-- The lengths of the clues, row by row, and one of them read.
use Prim.Native.Nat.{ℕ, suc, ◌+◌, ◌-◌, ◌<◌, ◌≤◌}
use mathlib.Core.Path.{◌≡◌, sym, ap, ◌∙◌}
use mathlib.Core.List.{List, [], ◌∷◌, ◌++◌, map-append, append-nil, append_assoc}
use native.Mathlib.Omega.{arith}
use native.Mathlib.Numerals.{add-one}
use lib.ListN.{length, get_or, take, set, replicate, length-map, get_or-map}
use lib.Seq.{take-suc, take_all, length-take-le, set_at}
use Rattle.basics.specs.Limits.{table_size}
use Rattle.naming.specs.Names.{Table, names_of, clues_of}
use Rattle.clue_lengths.specs.Lengths.{lengths_of}

-- the length of a name's clue is read from the list
pub lengths_at : (rows : Table) (p : ℕ) → get_or (lengths_of rows) p 0 ≡ length (clues_of rows p)
unfolding lengths_of clues_of names_of
lengths_at rows p = get_or-map (λ row. length (names_of row)) rows p []

-- a length read from those of all clues is the clue's
pub length_is : (rows : Table) {lengths : List ℕ} {n : ℕ} (p : ℕ) → lengths ≡ lengths_of rows → n ≡ get_or lengths p 0 → n ≡ length (clues_of rows p)
length_is rows p all e = e ∙ ap (λ l. get_or l p 0) all ∙ lengths_at rows p

-- lengths of the clues that are lent are those of the table
pub lengths_lent : (rows : Table) {lengths lent : List ℕ} → lent ≡ lengths → lengths ≡ lengths_of rows → lent ≡ lengths_of rows
lengths_lent rows e f = e ∙ f

-- the lengths of the first p clues are written
abbrev pub Written : Table → ℕ → List ℕ → Type 0
Written rows p lengths = lengths ≡ lengths_of (take p rows) ++ replicate (table_size - p) 0

module _ (rows : Table) (p : ℕ) {lengths : List ℕ} (written : Written rows p lengths) (size : length rows ≡ table_size) where
  -- past the last row the lengths of all clues are written
  pub lengths_end : {table : Table} → rows ≡ table → length rows ≤ p → lengths ≡ lengths_of table
  lengths_end same h =
      let z : table_size - p ≡ 0 = omega arith in
      written ∙ ap (λ n. lengths_of (take p rows) ++ replicate n 0) z ∙ append-nil (lengths_of (take p rows)) ∙ ap lengths_of (take_all p rows h ∙ same)

  -- with the length of one more clue the lengths of the first p + 1 are written
  pub lengths_on : p < length rows → {row : List ℕ} {n : ℕ} → row ≡ get_or rows p [] → n ≡ length (names_of row) → Written rows (p + 1) (set lengths p n)
  unfolding lengths_of
  lengths_on h {row} {n} is e =
      let z : table_size - p ≡ suc (table_size - (p + 1)) = omega arith in
      let one : take (p + 1) rows ≡ take p rows ++ (get_or rows p [] ∷ []) = ap (λ k. take k rows) (add-one p) ∙ take-suc rows p [] h in
      let long : length (lengths_of (take p rows)) ≡ p = length-map (take p rows) (λ row. length (names_of row)) ∙ length-take-le p rows (omega arith) in
      ap (λ (l : List ℕ). set l p n) (written ∙ ap (λ k. lengths_of (take p rows) ++ replicate k 0) z) ∙
      set_at (lengths_of (take p rows)) 0 (replicate (table_size - (p + 1)) 0) n p long ∙
      sym (append_assoc (lengths_of (take p rows)) (n ∷ []) (replicate (table_size - (p + 1)) 0)) ∙
      ap (λ l. l ++ replicate (table_size - (p + 1)) 0) (sym (ap lengths_of one ∙ map-append (λ row. length (names_of row)) (take p rows) (get_or rows p [] ∷ []) ∙
      ap (λ k. lengths_of (take p rows) ++ (k ∷ [])) (sym (e ∙ ap (λ r. length (names_of r)) is))))
