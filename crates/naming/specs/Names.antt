-- Names, and what may stand below them.
-- Everything above this file sees a name table only as its clues, so the table's layout can change alone.
use Rattle.std.specs.Prelude.{Bool, false, cond, ◌&&◌, ◌||◌, not, List, [], ◌∷◌, ◌++◌, map, ℕ, suc, ◌-◌, ◌%◌, length, get_or, drop, replicate, leb, eqb}
use Rattle.std.proofs.Math.Option
use Rattle.std.proofs.Math.Option.{Option, none, some}
use Rattle.basics.specs.Basics.{elim?, all, keep, up_to, stands}
use Rattle.basics.specs.Limits.{max_name, table_size, filler, max_file}
use Rattle.basics.specs.Refusals.{Refusal, check, first, file_length, name_too_high, pair_again, bad_table, bad_root}

-- the clue of each name: its child names, in file order
abbrev pub Clues : Type 0
Clues = ℕ → List ℕ

-- the place of a name in a clue
unfoldable pub place_in : ℕ → List ℕ → Option ℕ
place_in c [] = none
place_in c (x ∷ xs) = cond (eqb x c) (some 0) (Option.map suc (place_in c xs))

-- the name that a component leads to from a clue: the component mod n picks it; an empty clue leads nowhere
unfoldable pub led : List ℕ → ℕ → Option ℕ
led [] x = none
led (c ∷ cs) x = some (get_or (c ∷ cs) (x % length (c ∷ cs)) 0)

-- a name is a number 0 to 63
unfoldable pub is_name : ℕ → Bool
is_name n = leb n max_name

-- the check of a root name, which refuses by 21
unfoldable pub root_check : ℕ → Option Refusal
root_check root = check (is_name root) bad_root 0

-- In memory a table is rows of name numbers, each row filled up with 255.
abbrev pub Table : Type 0
Table = List (List ℕ)

-- the names of a row: what stands before its filler
unfoldable pub names_of : List ℕ → List ℕ
names_of [] = []
names_of (x ∷ xs) = cond (eqb x filler) [] (x ∷ names_of xs)

-- the clues of a table
unfoldable pub clues_of : Table → Clues
clues_of rows p = names_of (get_or rows p [])

-- whether a number stands twice in a list
unfoldable pub twice : List ℕ → Bool
twice [] = false
twice (x ∷ xs) = stands x xs || twice xs

-- whether a row holds names, each once, and then 255 alone
unfoldable pub good_row : List ℕ → Bool
good_row row = all is_name (names_of row) && all (λ x. eqb x filler) (drop (length (names_of row)) row) && not (twice (names_of row))

-- the check of a table, which refuses by 22
unfoldable pub table_check : Table → Option Refusal
table_check rows = check (all good_row rows) bad_table 0

-- A child-name file is pairs of bytes, parent then child, without a header.

-- a pair of a child-name file: a parent's name and a child's
pub record Pair : Type 0 where
  pub parent : ℕ
  pub child : ℕ

-- the pairs of a child-name file
unfoldable pub pairs : List ℕ → List Pair
pairs [] = []
pairs (p ∷ []) = []
pairs (p ∷ c ∷ bytes) = record { parent = p; child = c } ∷ pairs bytes

-- the children of a name, in file order
unfoldable pub children : List Pair → ℕ → List ℕ
children qs p = map (λ q. q.child) (keep (λ q. eqb q.parent p) qs)

-- the check of pair i: 2 for a name above 63, 3 for a pair that stood before
unfoldable pub pair_check : ℕ → List Pair → Pair → Option Refusal
pair_check i earlier q =
    first
    (check (is_name q.parent && is_name q.child) name_too_high i
    ∷ check (not (stands q.child (children earlier q.parent))) pair_again i
    ∷ [])

-- the checks of the pairs from number i on, after the earlier ones, pair by pair
unfoldable pub pairs_check : ℕ → List Pair → List Pair → Option Refusal
pairs_check i earlier [] = none
pairs_check i earlier (q ∷ qs) = first (pair_check i earlier q ∷ pairs_check (suc i) (q ∷ earlier) qs ∷ [])

-- the check of a child-name file: 1 for its length first, then 2 and 3 for its pairs
unfoldable pub file_check : List ℕ → Option Refusal
file_check bytes = first (check (eqb (length bytes % 2) 0 && leb (length bytes) max_file) file_length 0 ∷ pairs_check 0 [] (pairs bytes) ∷ [])

-- the row of a clue: its names, filled up with 255
unfoldable pub row_of : List ℕ → List ℕ
row_of clue = clue ++ replicate (table_size - length clue) filler

-- the table of pairs: for each name the row of its children
unfoldable pub table_of : List Pair → Table
table_of qs = map (λ p. row_of (children qs p)) (up_to table_size)

-- the table in which every clue is empty
unfoldable pub empty_table : Table
empty_table = replicate table_size (replicate table_size filler)

-- what the reader of a child-name file answers: the refusal and the table
pub record NamesRead : Type 0 where
  pub refusal : Option Refusal
  pub table : Table

-- reading a child-name file: a refused file returns a table of empty clues
unfoldable pub read_names : List ℕ → NamesRead
read_names bytes =
    elim? (file_check bytes) (record { refusal = none; table = table_of (pairs bytes) }) (λ r. record { refusal = some r; table = empty_table })
