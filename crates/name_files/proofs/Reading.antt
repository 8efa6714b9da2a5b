-- A child-name file read pair by pair: the check goes on with the pairs left, and the table grows by one name.
use mathlib.Core.Path.{◌≡◌, refl, sym, ap, subst, ◌∙◌}
use mathlib.Core.Logic.{◌↔◌, inl, ⊎_elim}
use mathlib.Core.Bool.{◌&&◌}
use mathlib.Core.List.{List, [], ◌∷◌, ◌++◌, append_assoc, append-nil, reverse_aux, map-append}
use mathlib.Core.Option.{none, some}
use Prim.Native.Nat.{ℕ, zero, suc, ◌+◌, ◌-◌, ◌*◌, ◌/◌, ◌≤◌, ◌<◌}
use native.Mathlib.Numerals.{add-one}
use native.Mathlib.Omega.{arith}
use native.Mathlib.Decide.{ℕ_discrete}
use lib.ListN.{length, get_or, take, drop, set, replicate, length-append, length-set}
use lib.Seq.{split_at, take_all, take-suc, length-take-le, ext_get_or, get_or-set_same, get_or-set_other, set_at}
use lib.Dec.{T, eqb, eqb_refl, T_not, not_T, leb→le, le→leb}
use Rattle.basics.specs.Basics.{◌∈◌, keep, up_to, stands}
use Rattle.basics.specs.Limits.{max_name, table_size, filler}
use Rattle.basics.specs.Refusals.{refuse, name_too_high, pair_again}
use Rattle.naming.specs.Names.{Table, is_name, Pair, pairs, children, pair_check, pairs_check, row_of, table_of, empty_table, clues_of, place_in}
use Rattle.basics.proofs.Tests.{and_iff, is_true, is_false, eqb_alike}
use Rattle.basics.proofs.Lists.{nowhere, member_at, keep_append, stands_iff, reverse_mem}
use Rattle.basics.proofs.Refusals.{first_none, first_next, first_here, first_passed, last_passed, check_passed, check_failed}
use Rattle.naming.proofs.Once.{pigeonhole}
use Rattle.naming.proofs.NameTables.{placed_at, place_in_none}
use Rattle.naming.proofs.NamePairs.{GoodPairs, pairs_check_iff, children_iff}
use Rattle.naming.proofs.NameFiles.{children_good, table_of_row, length-table_of, clues_table_of}

-- where the first pairs pass, the check goes on with the others
pairs_check_on : (i : ℕ) (earlier done qs : List Pair) → pairs_check i earlier done ≡ none →
    pairs_check i earlier (done ++ qs) ≡ pairs_check (i + length done) (reverse_aux done earlier) qs
unfolding pairs_check
pairs_check_on i earlier [] qs e = let d : i ≡ i + 0 = omega arith in ap (λ i. pairs_check i earlier qs) d
pairs_check_on i earlier (q ∷ done) qs e =
    let (this, rest) = first_none _ _ e in
    let d : suc i + length done ≡ i + suc (length done) = omega arith in
    first_next _ _ this ∙ pairs_check_on (suc i) (q ∷ earlier) done qs (first_none _ _ rest).0 ∙
    ap (λ i. pairs_check i (reverse_aux done (q ∷ earlier)) qs) d

-- the children of a name in some pairs and one more pair
children_snoc : (qs : List Pair) (q : Pair) (p : ℕ) → children (qs ++ (q ∷ [])) p ≡ children qs p ++ children (q ∷ []) p
unfolding children
children_snoc qs q p = rw (keep_append, map-append)

-- one pair gives its parent its child
children_here : (q : Pair) → children (q ∷ []) q.parent ≡ q.child ∷ []
unfolding children keep
children_here q = rw (is_true (eqb q.parent q.parent) (eqb_refl q.parent))

-- one pair gives no child to a name that is not its parent
children_elsewhere : (q : Pair) (p : ℕ) → (q.parent ≡ p → ⊥) → children (q ∷ []) p ≡ []
unfolding children keep
children_elsewhere q p n = rw (is_false (eqb q.parent p) (λ t. n ((eqb_alike q.parent p).0 t)))

-- a row grows by one name
row_of_snoc : (clue : List ℕ) (c : ℕ) → length clue < table_size → row_of (clue ++ (c ∷ [])) ≡ set (row_of clue) (length clue) c
unfolding row_of
row_of_snoc clue c h =
    let left : ℕ = max_name - length clue in
    let e : table_size - length clue ≡ suc left = omega arith in
    let d : table_size - length (clue ++ (c ∷ [])) ≡ left = omega (arith, length-append clue (c ∷ [])) in
    rw (e, d, append_assoc) (sym (set_at clue filler (replicate left filler) c (length clue) refl))

-- the table grows by one name in one row
table_of_snoc : (qs : List Pair) (q : Pair) → q.parent ≤ max_name → length (children qs q.parent) < table_size →
    table_of (qs ++ (q ∷ [])) ≡ set (table_of qs) q.parent (set (get_or (table_of qs) q.parent []) (length (children qs q.parent)) q.child)
table_of_snoc qs q name room =
    ext_get_or [] (table_of (qs ++ (q ∷ []))) _ (length-table_of (qs ++ (q ∷ [])) ∙ sym (length-set (table_of qs) p _ ∙ length-table_of qs)) (λ i h.
    let k : i < table_size = omega (arith, length-table_of (qs ++ (q ∷ []))) in
    table_of_row (qs ++ (q ∷ [])) i k ∙ ap row_of (children_snoc qs q i) ∙ at i k (ℕ_discrete p i))
  where
    p : ℕ
    p = q.parent

    new : List ℕ
    new = set (get_or (table_of qs) p []) (length (children qs p)) q.child

    here_row : row_of (children qs p ++ children (q ∷ []) p) ≡ get_or (set (table_of qs) p new) p []
    here_row =
        ap (λ l. row_of (children qs p ++ l)) (children_here q) ∙ row_of_snoc (children qs p) q.child room ∙
        ap (λ row. set row (length (children qs p)) q.child) (sym (table_of_row qs p (omega arith))) ∙
        sym (get_or-set_same (table_of qs) p new [] (omega (arith, length-table_of qs)))

    at : (i : ℕ) → i < table_size → Dec (p ≡ i) → row_of (children qs i ++ children (q ∷ []) i) ≡ get_or (set (table_of qs) p new) i []
    at i k (yes e) = subst (λ i. row_of (children qs i ++ children (q ∷ []) i) ≡ get_or (set (table_of qs) p new) i []) e here_row
    at i k (no n) =
        ap (λ l. row_of (children qs i ++ l)) (children_elsewhere q i n) ∙ ap row_of (append-nil (children qs i)) ∙ sym (table_of_row qs i k) ∙
        sym (get_or-set_other (table_of qs) p i new [] (λ e. n (sym e)))

-- a file has a pair for every two bytes
length_pairs : (bytes : List ℕ) → length (pairs bytes) ≡ length bytes / 2
unfolding pairs
length_pairs [] = refl
length_pairs (p ∷ []) = refl
length_pairs (p ∷ c ∷ bytes) = omega (arith, length_pairs bytes)

-- the pair at i is the two bytes there
pairs_at : (bytes : List ℕ) (i : ℕ) → i * 2 + 1 < length bytes →
    get_or (pairs bytes) i (record { parent = 0; child = 0 }) ≡ record { parent = get_or bytes (i * 2) 0; child = get_or bytes (i * 2 + 1) 0 }
unfolding pairs
pairs_at [] i h = absurd (omega arith)
pairs_at (p ∷ []) i h = absurd (omega arith)
pairs_at (p ∷ c ∷ bytes) zero h = refl
pairs_at (p ∷ c ∷ bytes) (suc i) h =
    let e : suc i * 2 ≡ suc (suc (i * 2)) = omega arith in
    let d : suc (suc (i * 2)) + 1 ≡ suc (suc (i * 2 + 1)) = omega arith in
    rw (e, d) (pairs_at bytes i (omega arith))

-- the reading of a file so far: the first i pairs pass, and are the table
pub record Reading (file : List ℕ) (t : Table) (i : ℕ) : Type 0 where
  pub inside : i ≤ length file / 2
  pub built : t ≡ table_of (take i (pairs file))
  pub passed : pairs_check 0 [] (take i (pairs file)) ≡ none

-- at the start no pair was read
pub read_start : (file : List ℕ) {t : Table} → t ≡ empty_table → Reading file t 0
unfolding pairs_check
read_start file e = record { inside = omega arith; built = e ∙ unfold empty_table table_of up_to row_of children keep in refl; passed = refl }

module _ (file : List ℕ) {t : Table} {i : ℕ} (r : Reading file t i) (h : i < length file / 2) where
  -- the pair to read
  abbrev pub pair : Pair
  pair = record { parent = get_or file (i * 2) 0; child = get_or file (i * 2 + 1) 0 }

  -- the pairs read
  abbrev pub done : List Pair
  done = take i (pairs file)

  -- the pairs are those read, the one to read, and the rest
  split : pairs file ≡ done ++ (pair ∷ drop (suc i) (pairs file))
  split =
      split_at (pairs file) i (record { parent = 0; child = 0 }) (omega (arith, length_pairs file)) ∙
      ap (λ q. done ++ (q ∷ drop (suc i) (pairs file))) (pairs_at file i (omega arith))

  -- as many pairs were read as the index says
  length_done : length done ≡ i
  length_done = length-take-le i (pairs file) (omega (arith, length_pairs file))

  -- the check goes on at the pair to read
  check_on : pairs_check 0 [] (pairs file) ≡ pairs_check i (reverse_aux done []) (pair ∷ drop (suc i) (pairs file))
  check_on =
      ap (pairs_check 0 []) split ∙ pairs_check_on 0 [] done (pair ∷ drop (suc i) (pairs file)) r.passed ∙
      (let e : 0 + length done ≡ i = omega (arith, length_done) in ap (λ n. pairs_check n (reverse_aux done []) (pair ∷ drop (suc i) (pairs file))) e)

  -- the pairs read are good
  done_good : GoodPairs done
  done_good = ((pairs_check_iff 0 [] done).0 r.passed).0

  -- the clue of the pair's parent in the table is its children so far
  clue_now : pair.parent ≤ max_name → clues_of t pair.parent ≡ children done pair.parent
  clue_now name = ap (λ t. clues_of t pair.parent) r.built ∙ clues_table_of done done_good pair.parent name

  -- a pair stood before exactly if its child stands in the clue of its parent
  stood_iff : pair.parent ≤ max_name → T (stands pair.child (children (reverse_aux done []) pair.parent)) ↔ (pair.child ∈ clues_of t pair.parent)
  stood_iff name =
      let back = reverse_mem done [] pair in
      let now = children_iff done pair.parent pair.child in (
        λ s. subst (λ l. pair.child ∈ l) (sym (clue_now name))
            (now.1 (⊎_elim (λ m. m) (λ m. absurd (nowhere m)) (back.0 ((children_iff _ _ _).0 ((stands_iff _ _).0 s))))),
        λ m. (stands_iff _ _).1 ((children_iff _ _ _).1 (back.1 (inl (now.0 (subst (λ l. pair.child ∈ l) (clue_now name) m))))),
      )

  -- a pair with a name above 63 is refused, 2 at the pair
  read_high : (T (is_name pair.parent && is_name pair.child) → ⊥) → pairs_check 0 [] (pairs file) ≡ refuse name_too_high i
  unfolding pairs_check pair_check
  read_high n = check_on ∙ first_here _ _ _ (first_here _ _ _ (check_failed _ name_too_high i n))

  -- a pair with a parent above 63 is refused
  pub read_high_parent : max_name < pair.parent → pairs_check 0 [] (pairs file) ≡ refuse name_too_high i
  unfolding is_name
  read_high_parent k = read_high (λ t. omega (arith, leb→le pair.parent max_name ((and_iff (is_name pair.parent) (is_name pair.child)).0 t).0))

  -- a pair with a child above 63 is refused
  pub read_high_child : max_name < pair.child → pairs_check 0 [] (pairs file) ≡ refuse name_too_high i
  unfolding is_name
  read_high_child k = read_high (λ t. omega (arith, leb→le pair.child max_name ((and_iff (is_name pair.parent) (is_name pair.child)).0 t).1))

  module _ (parent_name : pair.parent ≤ max_name) (child_name : pair.child ≤ max_name) where
    -- the parent and the child of the pair are names
    names : T (is_name pair.parent && is_name pair.child)
    unfolding is_name
    names = (and_iff (is_name pair.parent) (is_name pair.child)).1 (le→leb _ max_name parent_name, le→leb _ max_name child_name)

    -- a pair that stood before is refused, 3 at the pair
    pub read_again : (k : ℕ) → place_in pair.child (clues_of t pair.parent) ≡ some k → pairs_check 0 [] (pairs file) ≡ refuse pair_again i
    unfolding pairs_check pair_check
    read_again k e =
        let (low, at) = placed_at _ _ k e in
        let stood = (stood_iff parent_name).1 ((member_at 0 _ _).1 (k, low, at)) in
        check_on ∙ first_here _ _ _ (first_next _ _ (check_passed _ name_too_high i names) ∙
        check_failed _ pair_again i (λ t. T_not (stands pair.child _) t stood))

    module _ (absent : place_in pair.child (clues_of t pair.parent) ≡ none) where
      -- a pair that did not stand before passes
      new_passed : pair_check i (reverse_aux done []) pair ≡ none
      unfolding pair_check
      new_passed =
          first_next _ _ (check_passed _ name_too_high i names) ∙
          check_passed _ pair_again i (not_T (stands pair.child _) (λ s. (place_in_none _ _).0 absent ((stood_iff parent_name).0 s)))

      -- the pairs up to a new pair pass
      more_passed : pairs_check 0 [] (done ++ (pair ∷ [])) ≡ none
      unfolding pairs_check
      more_passed =
          let e : 0 + length done ≡ i = omega (arith, length_done) in
          pairs_check_on 0 [] done (pair ∷ []) r.passed ∙ ap (λ n. pairs_check n (reverse_aux done []) (pair ∷ [])) e ∙
          first_passed _ _ new_passed (last_passed _ refl)

      -- the clue has room for one more name, since all of its names differ
      room : length (children done pair.parent) < table_size
      room =
          let good = children_good (done ++ (pair ∷ [])) ((pairs_check_iff 0 [] _).0 more_passed).0 pair.parent in
          let few = pigeonhole table_size _ good.once (λ c m. omega (arith, good.names c m)) in
          omega (
            arith,
            ap length (children_snoc done pair pair.parent),
            length-append (children done pair.parent) (children (pair ∷ []) pair.parent),
            ap length (children_here pair),
          )

      module _ (k : ℕ) (counted : k ≡ length (clues_of t pair.parent)) where
        -- the number of names that the code counts in the clue leaves room
        pub read_room : k < table_size
        read_room = omega (arith, room, ap length (clue_now parent_name))

        -- the table with the name at the end of its parent's clue holds one pair more
        pub read_on : Reading file (set t pair.parent (set (get_or t pair.parent []) k pair.child)) (i + 1)
        read_on =
            let more : take (i + 1) (pairs file) ≡ done ++ (pair ∷ []) =
            ap (λ n. take n (pairs file)) (add-one i) ∙ take-suc (pairs file) i (record { parent = 0; child = 0 }) (omega (arith, length_pairs file)) ∙
            ap (λ q. done ++ (q ∷ [])) (pairs_at file i (omega arith)) in
            let size : k ≡ length (children done pair.parent) = counted ∙ ap length (clue_now parent_name) in
            record {
              inside = omega arith;
              built =
                  ap (λ t. set t pair.parent (set (get_or t pair.parent []) k pair.child)) r.built ∙
                  ap (λ k. set (table_of done) pair.parent (set (get_or (table_of done) pair.parent []) k pair.child)) size ∙
                  sym (table_of_snoc done pair parent_name room) ∙ ap table_of (sym more);
              passed = ap (pairs_check 0 []) more ∙ more_passed;
            }

-- a file that was read to its end passes, and the table is that of its pairs
pub read_end : (file : List ℕ) {t : Table} {i : ℕ} → Reading file t i → length file / 2 ≤ i →
    (pairs_check 0 [] (pairs file) ≡ none) × (t ≡ table_of (pairs file))
read_end file {t} {i} r h =
    let all : take i (pairs file) ≡ pairs file = take_all i (pairs file) (omega (arith, length_pairs file)) in
    (ap (pairs_check 0 []) (sym all) ∙ r.passed, r.built ∙ ap table_of all)
