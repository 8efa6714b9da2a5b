-- The check of a table: a test of every row. In a row the names are names, each once, and the rest is filler.
use Prim.Native.Nat.{ℕ, zero, suc, ◌+◌, ◌-◌, ◌<◌, ◌≤◌}
use mathlib.Core.Path.{◌≡◌, refl, sym, ◌∙◌}
use mathlib.Core.List.{List, [], ◌∷◌}
use mathlib.Core.Bool.{Bool, true, false, not, ◌&&◌, ◌||◌, and-true, and-false, and_comm}
use native.Mathlib.Nat.{not-suc-le-zero, le_of_suc-le-suc}
use native.Mathlib.Omega.{arith}
use lib.ListN.{length, get_or, take, drop, set, replicate, length-take, drop_of_length-le}
use lib.Dec.{eqb, eqb-zero-suc, eqb-suc-zero, eqb-suc-suc}
use mir.Syntax.{w8}
use mir.Val.{Fits}
use borrow.Author.Tests.{le-leb, lt-leb, eq-eqb, ne_eqb}
use Rattle.basics.specs.Basics.{all, stands}
use Rattle.basics.specs.Limits.{max_name, table_size, filler}
use Rattle.basics.specs.Refusals.{bad_table, refuse, check}
use Rattle.naming.specs.Names.{Table, is_name, names_of, twice, good_row, table_check}
use Rattle.basics.proofs.Tests.{Tells, passes, fails, eq?}
use Rattle.basics.proofs.Scans.{from_cons, tail_is}
use Rattle.refusals.specs.Answers.{verdict_of}
use Rattle.refusals.specs.declared.Verdict.{Verdict}
use Rattle.refusals.specs.declared.Verdict.TheVariants as verdict
use Rattle.names.proofs.Rows.{take_names, names_short}
use Rattle.table_checks.specs.Rows.{is_filler}

-- the test of names: every number is a name, and none stands twice
abbrev pub once : List ℕ → Bool
once l = all is_name l && not (twice l)

-- the test of a number: whether it is not marked
abbrev pub unmarked : List Bool → ℕ → Bool
unmarked seen x = not (get_or seen x false)

-- before the first name no number is marked
not_seen : (n x : ℕ) → get_or (replicate n false) x false ≡ false
not_seen zero x = refl
not_seen (suc n) zero = refl
not_seen (suc n) (suc x) = not_seen n x

-- before the first name no member of a list is marked
none_marked : (n : ℕ) (l : List ℕ) → all (unmarked (replicate n false)) l ≡ true
unfolding all
none_marked n [] = refl
none_marked n (x ∷ l) = rw (not_seen n x, none_marked n l)

-- a mark is set for one number alone
marked_at : (seen : List Bool) (x y : ℕ) → x < length seen → get_or (set seen x true) y false ≡ (eqb y x || get_or seen y false)
marked_at [] x y h = absurd (not-suc-le-zero h)
marked_at (s ∷ seen) zero zero h = refl
marked_at (s ∷ seen) zero (suc y) h = rw (eqb-suc-zero)
marked_at (s ∷ seen) (suc x) zero h = rw (eqb-zero-suc)
marked_at (s ∷ seen) (suc x) (suc y) h = rw (eqb-suc-suc) (marked_at seen x y (le_of_suc-le-suc h))

-- after a mark for x the numbers are unmarked if they were and x is none of them
mark_more : (seen : List Bool) (x : ℕ) → x < length seen → (l : List ℕ) →
    all (unmarked (set seen x true)) l ≡ (not (stands x l) && all (unmarked seen) l)
unfolding all stands
mark_more seen x h [] = refl
mark_more seen x h (y ∷ l) = rw (marked_at seen x y h, mark_more seen x h l) (go (eqb y x) (get_or seen y false) (stands x l))
  where
    go : (e m s : Bool) → (not (e || m) && (not s && all (unmarked seen) l)) ≡ (not (e || s) && (not m && all (unmarked seen) l))
    go true m s = refl
    go false true s = sym (and-false (not s))
    go false false s = refl

-- marks for the names before index i of a list
module _ (names : List ℕ) (i : ℕ) (seen : List Bool) where
  -- the names left are names, each once, and none of them is marked
  abbrev pub Marked : Type 0
  Marked = once names ≡ (once (drop i names) && all (unmarked seen) (drop i names))

  module _ (inv : Marked) where
    -- at the end no name was found twice
    pub mark_end : length names ≤ i → true ≡ once names
    unfolding all twice
    mark_end h = rw (inv, drop_of_length-le)

    module _ (h : i < length names) where
      -- a number above 63 fails the test of names
      pub mark_high : max_name < get_or names i 0 → false ≡ once names
      unfolding all is_name
      mark_high k = rw (inv, from_cons names i 0, lt-leb _ _ k)

      -- a name that is marked already fails the test of names
      pub mark_again : get_or seen (get_or names i 0) false ≡ true → false ≡ once names
      unfolding all
      mark_again e = rw (inv, from_cons names i 0, e) (sym (and-false (once (get_or names i 0 ∷ drop (i + 1) names))))

      -- a name that is not marked yet is marked, and the test goes on
      pub mark_on : length seen ≡ table_size → get_or names i 0 ≤ max_name → get_or seen (get_or names i 0) false ≡ false →
          once names ≡ (once (drop (i + 1) names) && all (unmarked (set seen (get_or names i 0) true)) (drop (i + 1) names))
      unfolding all is_name twice
      mark_on long k e =
          let x : ℕ = get_or names i 0 in
          let left : List ℕ = drop (i + 1) names in
          rw (inv, from_cons names i 0, le-leb _ _ k, e, mark_more seen x (omega arith) left)
          (go (all is_name left) (stands x left) (twice left) (all (unmarked seen) left))
        where
          go : (a s t u : Bool) → (a && not (s || t) && u) ≡ (a && not t && (not s && u))
          go true true t u = sym (and-false (not t))
          go true false t u = refl
          go false s t u = refl

-- at first no name is marked
pub mark_from : (names : List ℕ) → Marked names 0 (replicate table_size false)
mark_from names = rw (none_marked table_size names) (sym (and-true (once names)))

-- the least number before index i, the filler if there is none
module _ (row : List ℕ) (i least : ℕ) where
  -- the row is filler alone if the least number before i is the filler and the rest is filler alone
  abbrev pub Least : Type 0
  Least = all is_filler row ≡ (eqb least filler && all is_filler (drop i row))

  module _ (inv : Least) where
    -- at the end of the row the least number tells whether the row is filler alone
    pub least_end : length row ≤ i → eqb least filler ≡ all is_filler row
    unfolding all
    least_end h = rw (inv, drop_of_length-le) (sym (and-true (eqb least filler)))

    module _ (h : i < length row) where
      -- a number below the least so far is not the filler
      pub least_less : least ≤ filler → get_or row i 0 < least → {n : ℕ} → n ≡ get_or row i 0 → all is_filler row ≡ (eqb n filler && all is_filler (drop (i + 1) row))
      unfolding all
      least_less low k e =
          let other : eqb (get_or row i 0) filler ≡ false = ne_eqb (get_or row i 0) filler (λ z. omega arith) in
          rw (inv, from_cons row i 0, e, other) (and-false (eqb least filler))

      -- a byte that is not below the least so far is filler if the least is
      pub least_same : least ≤ get_or row i 0 → Fits w8 (get_or row i 0) → {n : ℕ} → n ≡ least → all is_filler row ≡ (eqb n filler && all is_filler (drop (i + 1) row))
      unfolding all
      least_same k b e = rw (inv, from_cons row i 0, e) (go (eqb least filler) (eq? least filler))
        where
          go : (t : Bool) → Tells (least ≡ filler) t → (t && (is_filler (get_or row i 0) && all is_filler (drop (i + 1) row))) ≡ (t && all is_filler (drop (i + 1) row))
          go t (passes z) = let full : eqb (get_or row i 0) filler ≡ true = eq-eqb (get_or row i 0) filler (omega arith) in rw full
          go t (fails z) = refl

-- a row of n names, cut behind its names
module _ (row : List ℕ) {n : ℕ} (is : n ≡ length (names_of row)) where
  -- a row has no fewer places than names
  pub cut_in : n ≤ length row
  cut_in = omega (arith, is, names_short row)

  -- the first part has n numbers
  pub cut_long : n ≡ length (take n row)
  cut_long = rw (length-take n row) (omega (arith, cut_in))

  -- the test of names on the first part answers x
  module _ {x : Bool} (told : x ≡ once (take n row)) where
    -- the row is good if the first part passes and the second is filler alone
    cut_good : (x && all is_filler (drop n row)) ≡ good_row row
    unfolding good_row
    cut_good = rw (told, is, take_names row) (go (all is_name (names_of row)) (twice (names_of row)) (all is_filler (drop (length (names_of row)) row)))
      where
        go : (a t f : Bool) → (a && not t && f) ≡ (a && f && not t)
        go true t f = and_comm (not t) f
        go false t f = refl

    -- where the first part fails, the row is not good
    pub cut_not : x ≡ false → x ≡ good_row row
    cut_not e = rw (← cut_good, e)

    -- where the first part passes, the second decides
    pub cut_rest : x ≡ true → {y : Bool} → y ≡ all is_filler (take (length row - n) (drop n row)) → y ≡ good_row row
    cut_rest e f = rw (← cut_good, e, ← tail_is n row) f

-- a table, where the test of its rows answered x
module _ (table : Table) {x : Bool} (is : x ≡ all good_row table) where
  -- a table of good rows passes
  pub table_good : x ≡ true → verdict.Passed ≡ verdict_of (table_check table)
  unfolding table_check check
  table_good e = rw (← is, e)

  -- a table with a row that is not good is refused
  pub table_bad : x ≡ false → {r : Verdict} → r ≡ verdict_of (refuse bad_table 0) → r ≡ verdict_of (table_check table)
  unfolding table_check check
  table_bad e f = f ∙ rw (← is, e)
