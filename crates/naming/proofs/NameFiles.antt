-- The table that a child-name file gives.
use mathlib.Core.Path.{◌≡◌, refl, sym, ap, ◌∙◌}
use mathlib.Core.Logic.{by_cases}
use mathlib.Core.Bool.{Bool, true, false, cond, not}
use mathlib.Core.List.{List, [], ◌∷◌, ◌++◌}
use mathlib.Core.Option.{Option, none, some}
use Prim.Native.Nat.{ℕ, zero, suc, ◌+◌, ◌-◌, ◌≤◌, ◌<◌}
use native.Mathlib.Decide.{dec_lt}
use native.Mathlib.Omega.{arith}
use lib.ListN.{length, get_or, replicate, length-append, length-map, length-replicate, get_or-replicate, get_or-append, get_or-eq_default}
use lib.Seq.{get_or-append-add}
use lib.Dec.{T, eqb}
use Rattle.basics.specs.Basics.{◌∈◌, elim?, keep, up_to}
use Rattle.basics.specs.Limits.{max_name, table_size, filler}
use Rattle.basics.specs.Refusals.{Refusal}
use Rattle.naming.specs.Names.{names_of, clues_of, twice, good_row, table_check, Pair, pairs, children, file_check, row_of, table_of, empty_table, read_names}
use Rattle.basics.proofs.Tests.{Tells, passes, fails, eq?}
use Rattle.basics.proofs.Lists.{here, there, member_at}
use Rattle.basics.proofs.Ranges.{length-up_to, map-up_to}
use Rattle.naming.proofs.Once.{pigeonhole}
use Rattle.naming.proofs.NameTables.{row_tests, good_row_iff, table_check_iff}
use Rattle.naming.proofs.NamePairs.{GoodPairs, pairs_good, children_iff, file_check_iff, no_pairs}

-- a clue that can stand in a row: names of which none stands twice
pub record GoodClue (clue : List ℕ) : Type 0 where
  pub names : (c : ℕ) → c ∈ clue → c ≤ max_name
  pub once : T (not (twice clue))

-- the names of a clue with a filler behind it are the clue
names_filled : (n : ℕ) (clue : List ℕ) → ((c : ℕ) → c ∈ clue → c ≤ max_name) → names_of (clue ++ replicate n filler) ≡ clue
unfolding names_of
names_filled zero [] h = refl
names_filled (suc n) [] h = refl
names_filled n (x ∷ clue) h = go (names_filled n clue (λ c m. h c (there m))) (eqb x filler) (eq? x filler)
  where
    go : names_of (clue ++ replicate n filler) ≡ clue → (b : Bool) → Tells (x ≡ filler) b →
        cond b [] (x ∷ names_of (clue ++ replicate n filler)) ≡ x ∷ clue
    go below true (passes e) = absurd (omega (arith, h x (here refl)))
    go below false (fails k) = ap (◌∷◌ x) below

module _ (clue : List ℕ) (good : GoodClue clue) where
  -- the names of a clue's row are the clue
  pub names_of-row_of : names_of (row_of clue) ≡ clue
  unfolding row_of
  names_of-row_of = names_filled (table_size - length clue) clue good.names

  -- a clue's row has sixty-four places: a clue has no more names
  pub length-row_of : length (row_of clue) ≡ table_size
  unfolding row_of
  length-row_of =
      let few : length clue ≤ table_size = pigeonhole table_size clue good.once (λ c m. omega (arith, good.names c m)) in
      simp (length-append, length-replicate) (omega arith)

  -- a clue's row passes the test of a row
  pub good_row-row_of : T (good_row (row_of clue))
  unfolding row_of
  good_row-row_of =
      let n : ℕ = length clue in
      (row_tests (row_of clue)).1 (rw names_of-row_of (
        λ i p. rw (get_or-append clue (replicate (table_size - n) filler) 0 i p) (good.names _ ((member_at 0 clue _).1 (i, p, refl))),
        λ i p q.
            let e : n + (i - n) ≡ i = omega arith in
            ap (λ j. get_or (row_of clue) j 0) (sym e) ∙ get_or-append-add clue (replicate (table_size - n) filler) (i - n) 0 ∙
            get_or-replicate (table_size - n) (i - n) filler 0 (omega (arith, length-row_of)),
        good.once,
      ))

-- the children of a name in good pairs are a good clue
pub children_good : (qs : List Pair) → GoodPairs qs → (p : ℕ) → GoodClue (children qs p)
children_good qs g p = record { names = λ c m. (g.names _ ((children_iff qs p c).0 m)).1; once = g.once p }

-- the table of pairs has for each name the row of its children
pub table_of_row : (qs : List Pair) (p : ℕ) → p < table_size → get_or (table_of qs) p [] ≡ row_of (children qs p)
unfolding table_of
table_of_row qs p h = map-up_to (λ p. row_of (children qs p)) [] table_size p h

-- the table of empty clues is the table of no pairs
empty_table_lem : empty_table ≡ table_of []
unfolding empty_table table_of up_to row_of children keep
empty_table_lem = refl

-- an accepted child-name file is read into the table of its pairs
pub accepted_read : (bytes : List ℕ) → file_check bytes ≡ none → read_names bytes ≡ record { refusal = none; table = table_of (pairs bytes) }
unfolding read_names elim?
accepted_read bytes e = rw e

-- a refused child-name file is read into a table of empty clues, with the refusal
pub refused_read : (bytes : List ℕ) (r : Refusal) → file_check bytes ≡ some r → read_names bytes ≡ record { refusal = some r; table = empty_table }
unfolding read_names elim?
refused_read bytes r e = rw e

-- the reader refuses a child-name file as its check does
pub read_refusal : (bytes : List ℕ) → (read_names bytes).refusal ≡ file_check bytes
read_refusal bytes = go (file_check bytes) refl
  where
    go : (o : Option Refusal) → file_check bytes ≡ o → (read_names bytes).refusal ≡ file_check bytes
    go none e = ap (λ a. a.refusal) (accepted_read bytes e) ∙ sym e
    go (some r) e = ap (λ a. a.refusal) (refused_read bytes r e) ∙ sym e

-- a refused file gives the table of empty clues
pub refused_table : (bytes : List ℕ) (r : Refusal) → (read_names bytes).refusal ≡ some r → (read_names bytes).table ≡ empty_table
refused_table bytes r e = ap (λ a. a.table) (refused_read bytes r (sym (read_refusal bytes) ∙ e))

-- a file is read into a table of good pairs: of the file's own where it is accepted, of none where it is refused
read_table : (bytes : List ℕ) → (qs : List Pair) × GoodPairs qs × ((read_names bytes).table ≡ table_of qs)
read_table bytes = go (file_check bytes) refl
  where
    go : (o : Option Refusal) → file_check bytes ≡ o → (qs : List Pair) × GoodPairs qs × ((read_names bytes).table ≡ table_of qs)
    go none e = (pairs bytes, pairs_good bytes ((file_check_iff bytes).0 e), ap (λ a. a.table) (accepted_read bytes e))
    go (some r) e = ([], no_pairs, ap (λ a. a.table) (refused_read bytes r e) ∙ empty_table_lem)

-- a table of pairs has sixty-four rows
pub length-table_of : (qs : List Pair) → length (table_of qs) ≡ table_size
unfolding table_of
length-table_of qs = length-map (up_to table_size) (λ p. row_of (children qs p)) ∙ length-up_to table_size

-- the table of good pairs is accepted
pub table_check-table_of : (qs : List Pair) → GoodPairs qs → table_check (table_of qs) ≡ none
table_check-table_of qs g = (table_check_iff (table_of qs)).1 (λ p h.
    let q : p < table_size = omega (arith, length-table_of qs) in
    rw (table_of_row qs p q) ((good_row_iff (row_of (children qs p))).0 (good_row-row_of (children qs p) (children_good qs g p))))

-- every file, accepted or refused, is read into a table that is accepted
pub file_table : (bytes : List ℕ) → table_check (read_names bytes).table ≡ none
file_table bytes = let (qs, g, e) = read_table bytes in rw e (table_check-table_of qs g)

-- the table that a file is read into has sixty-four rows
pub file_size : (bytes : List ℕ) → length (read_names bytes).table ≡ table_size
file_size bytes = let (qs, g, e) = read_table bytes in rw e (length-table_of qs)

-- every row of the table that a file is read into has sixty-four places
pub file_rows : (bytes : List ℕ) (p : ℕ) → p < table_size → length (get_or (read_names bytes).table p []) ≡ table_size
file_rows bytes p h = let (qs, g, e) = read_table bytes in rw (e, table_of_row qs p h) (length-row_of (children qs p) (children_good qs g p))

-- in the table of good pairs the clue of a name is the name's children
pub clues_table_of : (qs : List Pair) → GoodPairs qs → (p : ℕ) → p ≤ max_name → clues_of (table_of qs) p ≡ children qs p
unfolding clues_of
clues_table_of qs g p h = rw (table_of_row qs p (omega arith)) (names_of-row_of (children qs p) (children_good qs g p))

-- in the table of an accepted file the clue of a name is the name's children in file order
pub file_clues_lem : (bytes : List ℕ) → file_check bytes ≡ none → (p : ℕ) → p ≤ max_name → clues_of (read_names bytes).table p ≡ children (pairs bytes) p
file_clues_lem bytes e p h =
    ap (λ a. clues_of a.table p) (accepted_read bytes e) ∙ clues_table_of (pairs bytes) (pairs_good bytes ((file_check_iff bytes).0 e)) p h

-- the clues of the table of empty clues are empty
pub empty_clues : (p : ℕ) → clues_of empty_table p ≡ []
unfolding clues_of empty_table names_of
empty_clues p = by_cases (dec_lt p table_size)
    (λ h. rw (get_or-replicate table_size p (replicate table_size filler) [] h))
    (λ h. rw (get_or-eq_default empty_table [] {n = p} (omega (arith, length-replicate table_size (replicate table_size filler)))))
