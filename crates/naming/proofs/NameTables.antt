-- Rows of names and clues: what the checks of a row and of a table tell.
use mathlib.Core.Path.{◌≡◌, refl, sym, ap, subst, ◌∙◌}
use mathlib.Core.Logic.{◌↔◌, ◌⊎◌, inl, inr, ⊎_elim, by_cases}
use mathlib.Core.Bool.{Bool, true, false, cond, ◌&&◌, not}
use mathlib.Core.List.{List, [], ◌∷◌, cons-ne-nil}
use mathlib.Core.Option.{Option, none, some, map, none-ne-some, some-ne-none, map-eq-none_iff}
use Prim.Native.Nat.{ℕ, zero, suc, ◌+◌, ◌-◌, ◌≤◌, ◌<◌}
use native.Mathlib.Decide.{dec_lt}
use native.Mathlib.Nat.{not-suc-le-zero, le_of_suc-le-suc}
use native.Mathlib.Omega.{arith}
use lib.ListN.{length, get_or, drop, length-drop, get_or-eq_default}
use lib.Seq.{get_or-drop}
use lib.Dec.{T, eqb, eqb_refl, leb→le, le→leb}
use Rattle.basics.specs.Basics.{◌∈◌, all}
use Rattle.basics.specs.Limits.{max_name, filler}
use Rattle.basics.specs.Refusals.{bad_table, bad_root}
use Rattle.naming.specs.Names.{Table, place_in, led, is_name, names_of, clues_of, twice, good_row, table_check, root_check}
use Rattle.basics.proofs.Tests.{and_iff, is_true, is_false, eqb_alike, Tells, passes, fails, eq?}
use Rattle.basics.proofs.Lists.{here, there, here_or_there, nowhere, all_at, member_at}
use Rattle.basics.proofs.Refusals.{check_none, check_passed, check_iff}
use Rattle.naming.proofs.Once.{once_cons, twice_iff}

-- numbers that begin a row, up to its first 255
record Begin (row names : List ℕ) : Type 0 where
  short : length names ≤ length row
  alike : (i : ℕ) → i < length names → get_or names i 0 ≡ get_or row i 0
  before : (i : ℕ) → i < length names → get_or row i 0 ≡ filler → ⊥
  ended : length names < length row → get_or row (length names) 0 ≡ filler

-- the names of a row begin it, up to its first 255
names_begin : (row : List ℕ) → Begin row (names_of row)
unfolding names_of
names_begin [] = record { short = omega arith; alike = λ i p. refl; before = λ i p. absurd (omega arith); ended = λ p. absurd (omega arith) }
names_begin (x ∷ xs) = go (names_begin xs) (eqb x filler) (eq? x filler)
  where
    go : Begin xs (names_of xs) → (b : Bool) → Tells (x ≡ filler) b → Begin (x ∷ xs) (cond b [] (x ∷ names_of xs))
    go below true (passes e) = record {
      short = omega arith;
      alike = λ i p. absurd (omega arith);
      before = λ i p. absurd (omega arith);
      ended = λ p. e;
    }
    go below false (fails h) = record {
      short = omega (arith, below.short);
      alike = alike;
      before = before;
      ended = λ p. below.ended (le_of_suc-le-suc p);
    }
      where
        alike : (i : ℕ) → i < suc (length (names_of xs)) → get_or (x ∷ names_of xs) i 0 ≡ get_or (x ∷ xs) i 0
        alike zero p = refl
        alike (suc i) p = below.alike i (le_of_suc-le-suc p)

        before : (i : ℕ) → i < suc (length (names_of xs)) → get_or (x ∷ xs) i 0 ≡ filler → ⊥
        before zero p = h
        before (suc i) p = below.before i (le_of_suc-le-suc p)

-- what the test of a row tells: its names are 0 to 63, 255 alone follows them, and none stands twice
pub row_tests : (row : List ℕ) → T (good_row row) ↔
    (((i : ℕ) → i < length (names_of row) → get_or row i 0 ≤ max_name) ×
    ((i : ℕ) → length (names_of row) ≤ i → i < length row → get_or row i 0 ≡ filler) ×
    T (not (twice (names_of row))))
unfolding good_row is_name
row_tests row =
    let n : ℕ = length (names_of row) in
    let names : Bool = all is_name (names_of row) in
    let filled : Bool = all (λ x. eqb x filler) (drop n row) in
    let begun = names_begin row in (
      λ h.
          let (ab, c) = (and_iff (names && filled) (not (twice (names_of row)))).0 h in
          let (a, b) = (and_iff names filled).0 ab in (
            λ i p. subst (λ x. x ≤ max_name) (begun.alike i p) (leb→le _ max_name ((all_at is_name 0 (names_of row)).0 a i p)),
            λ i p q.
                let e : n + (i - n) ≡ i = omega arith in
                ap (λ j. get_or row j 0) (sym e) ∙ sym (get_or-drop n row (i - n) 0) ∙
                (eqb_alike _ filler).0 ((all_at (λ x. eqb x filler) 0 (drop n row)).0 b (i - n) (omega (arith, length-drop n row))),
            c,
          ),
      λ p. (and_iff (names && filled) (not (twice (names_of row)))).1 (
        (and_iff names filled).1 (
          (all_at is_name 0 (names_of row)).1 (λ i q. subst (λ x. T (is_name x)) (sym (begun.alike i q)) (le→leb _ max_name (p.0 i q))),
          (all_at (λ x. eqb x filler) 0 (drop n row)).1 (λ i q.
              (eqb_alike _ filler).1 (get_or-drop n row i 0 ∙ p.1 (n + i) (omega arith) (omega (arith, length-drop n row)))),
        ),
        p.2,
      ),
    )

-- the three facts of refusal 22: no entry 64 to 254, no number after a 255, no name twice
pub record IsRow (row : List ℕ) : Type 0 where
  pub entries : (i : ℕ) → i < length row → (get_or row i 0 ≤ max_name) ⊎ (get_or row i 0 ≡ filler)
  pub filling : (i j : ℕ) → i < j → j < length row → get_or row i 0 ≡ filler → get_or row j 0 ≡ filler
  pub once : (i j : ℕ) → i < j → j < length row → get_or row i 0 ≡ get_or row j 0 → get_or row i 0 ≡ filler

-- a row passes exactly if the three facts of refusal 22 hold
pub good_row_iff : (row : List ℕ) → T (good_row row) ↔ IsRow row
good_row_iff row =
    let n : ℕ = length (names_of row) in
    let begun = names_begin row in (
      λ h.
          let (names, filled, apart) = (row_tests row).0 h in
          record {
            entries = λ i p. by_cases (dec_lt i n) (λ q. inl (names i q)) (λ q. inr (filled i (omega arith) p));
            filling = λ i j p q e. by_cases (dec_lt i n) (λ k. absurd (begun.before i k e)) (λ k. filled j (omega arith) q);
            once = λ i j p q e. by_cases (dec_lt j n)
                (λ k. absurd ((twice_iff (names_of row)).0 apart i j p k (begun.alike i (omega arith) ∙ e ∙ sym (begun.alike j k))))
                (λ k. e ∙ filled j (omega arith) q);
          },
      λ r. (row_tests row).1 (
        λ i p. ⊎_elim (λ h. h) (λ e. absurd (begun.before i p e)) (r.entries i (omega (arith, begun.short))),
        λ i p q. by_cases (dec_lt n i)
            (λ k. r.filling n i k q (begun.ended (omega arith)))
            (λ k. let e : n ≡ i = omega arith in rw (← e) (begun.ended (omega arith))),
        (twice_iff (names_of row)).1 (λ i j p q e.
            let k : i < n = omega arith in
            begun.before i k (r.once i j p (omega (arith, begun.short)) (sym (begun.alike i k) ∙ e ∙ begun.alike j q))),
      ),
    )

-- a table is accepted exactly if each of its rows has the three facts of refusal 22
pub table_check_iff : (rows : Table) → table_check rows ≡ none ↔ ((p : ℕ) → p < length rows → IsRow (get_or rows p []))
unfolding table_check
table_check_iff rows = (
  λ h p q. (good_row_iff (get_or rows p [])).0 ((all_at good_row [] rows).0 (check_none (all good_row rows) bad_table 0 h) p q),
  λ h. check_passed (all good_row rows) bad_table 0 ((all_at good_row [] rows).1 (λ p q. (good_row_iff (get_or rows p [])).1 (h p q))),
)

-- the place of a name in a clue is a place of the clue, and the name stands there
pub placed_at : (c : ℕ) (cs : List ℕ) (k : ℕ) → place_in c cs ≡ some k → (k < length cs) × (get_or cs k 0 ≡ c)
unfolding place_in
placed_at c [] k e = absurd (none-ne-some k e)
placed_at c (x ∷ xs) k e = go (eqb x c) (eq? x c) (place_in c xs) (placed_at c xs) k e
  where
    go : (b : Bool) → Tells (x ≡ c) b → (o : Option ℕ) → ((j : ℕ) → o ≡ some j → (j < length xs) × (get_or xs j 0 ≡ c)) →
        (k : ℕ) → cond b (some 0) (map suc o) ≡ some k → (k < suc (length xs)) × (get_or (x ∷ xs) k 0 ≡ c)
    go true (passes h) o ih zero e = (omega arith, h)
    go true (passes h) o ih (suc k) e = let z : ◌≡◌ {A = ℕ} 0 (suc k) = cc in absurd (omega arith)
    go false (fails h) none ih k e = absurd (none-ne-some k e)
    go false (fails h) (some j) ih zero e = let z : ◌≡◌ {A = ℕ} (suc j) 0 = cc in absurd (omega arith)
    go false (fails h) (some j) ih (suc k) e =
        let z : ◌≡◌ {A = Option ℕ} (some j) (some k) = cc in
        (omega (arith, (ih k z).0), (ih k z).1)

-- a name has no place in a clue exactly if it does not stand there
pub place_in_none : (c : ℕ) (cs : List ℕ) → place_in c cs ≡ none ↔ (c ∈ cs → ⊥)
unfolding place_in
place_in_none c [] = (λ e. nowhere, λ h. refl)
place_in_none c (x ∷ xs) = go (place_in_none c xs) (eqb x c) (eq? x c)
  where
    go : place_in c xs ≡ none ↔ (c ∈ xs → ⊥) → (b : Bool) → Tells (x ≡ c) b →
        cond b (some 0) (map suc (place_in c xs)) ≡ none ↔ (c ∈ x ∷ xs → ⊥)
    go below true (passes d) = (λ e. absurd (some-ne-none 0 e), λ h. absurd (h (here (sym d))))
    go below false (fails n) = (
      λ e m. ⊎_elim (λ d. n (sym d)) (below.0 ((map-eq-none_iff suc _).0 e)) (here_or_there m),
      λ h. (map-eq-none_iff suc _).1 (below.1 (λ m. h (there m))),
    )

-- in a clue in which no name stands twice, a name has the place at which it stands
pub place_once : (cs : List ℕ) → T (not (twice cs)) → (k : ℕ) → k < length cs → place_in (get_or cs k 0) cs ≡ some k
unfolding place_in
place_once [] h k p = absurd (not-suc-le-zero p)
place_once (x ∷ xs) h zero p = rw (is_true (eqb x x) (eqb_refl x))
place_once (x ∷ xs) h (suc k) p =
    let (new, apart) = (once_cons x xs).0 h in
    let inside : k < length xs = le_of_suc-le-suc p in
    let other = is_false (eqb x (get_or xs k 0)) (λ t. new ((member_at 0 xs x).1 (k, inside, sym ((eqb_alike x (get_or xs k 0)).0 t)))) in
    rw (other, place_once xs apart k inside)

-- in an accepted table every clue comes from a good row: past the last row from an empty one
clue_row : (rows : Table) → table_check rows ≡ none → (p : ℕ) → T (good_row (get_or rows p []))
unfolding good_row names_of twice all
clue_row rows h p = by_cases (dec_lt p (length rows))
    (λ q. (good_row_iff (get_or rows p [])).1 ((table_check_iff rows).0 h p q))
    (λ q. rw (get_or-eq_default rows [] {n = p} (omega arith)) tt)

-- in an accepted table no name stands twice in a clue
pub clue_once : (rows : Table) → table_check rows ≡ none → (p : ℕ) → T (not (twice (clues_of rows p)))
unfolding clues_of
clue_once rows h p = ((row_tests (get_or rows p [])).0 (clue_row rows h p)).2

-- in an accepted table clues hold names alone
pub clue_names : (rows : Table) → table_check rows ≡ none → (p c : ℕ) → c ∈ clues_of rows p → c ≤ max_name
unfolding clues_of
clue_names rows h p c m =
    let row : List ℕ = get_or rows p [] in
    let (i, q, e) = (member_at 0 (names_of row) c).0 m in
    let d : get_or row i 0 ≡ c = sym ((names_begin row).alike i q) ∙ e in
    rw (← d) (((row_tests row).0 (clue_row rows h p)).0 i q)

-- a component leads nowhere exactly from an empty clue
pub led_none : (clue : List ℕ) (x : ℕ) → led clue x ≡ none ↔ (clue ≡ [])
unfolding led
led_none [] x = (λ e. refl, λ e. refl)
led_none (c ∷ cs) x = (λ e. absurd (some-ne-none _ e), λ e. absurd (cons-ne-nil c cs e))

-- a root name is accepted exactly if it is at most 63
pub root_check_iff : (root : ℕ) → root_check root ≡ none ↔ (root ≤ max_name)
unfolding root_check is_name
root_check_iff root = check_iff (is_name root) bad_root 0 (leb→le root max_name, le→leb root max_name)
