-- The pairs of a child-name file, and which of them are accepted.
use mathlib.Core.Path.{◌≡◌, refl, sym, ap}
use mathlib.Core.Logic.Iff
use mathlib.Core.Logic.{◌↔◌, ⊎_elim}
use mathlib.Core.Bool.{Bool, true, false, cond, ◌&&◌, not}
use mathlib.Core.List.Memᴰ
use mathlib.Core.List.{List, [], ◌∷◌, map}
use mathlib.Core.Option.{none}
use Prim.Native.Nat.{ℕ, suc, ◌%◌, ◌≤◌}
use native.Mathlib.Omega.{arith}
use lib.ListN.{length}
use lib.Dec.{T, leb, eqb, eqb_refl, T_not, not_T, leb→le, le→leb}
use Rattle.basics.specs.Basics.{◌∈◌, keep, stands}
use Rattle.basics.specs.Limits.{max_name, max_file}
use Rattle.basics.specs.Refusals.{file_length, name_too_high, pair_again}
use Rattle.naming.specs.Names.{is_name, twice, Pair, pairs, children, pair_check, pairs_check, file_check}
use Rattle.basics.proofs.Tests.{and_facts, is_true, eqb_alike, Tells, passes, fails, eq?}
use Rattle.basics.proofs.Lists.{here, there, here_or_there, nowhere, for_cons, for_map, keep_iff, stands_iff}
use Rattle.basics.proofs.Refusals.{check_iff, first_iff, last_iff, first_both}
use Rattle.naming.proofs.Once.{once_cons, Differ, differ_cons}

-- a number is a child of a name exactly if the pair of the two stands in the file
pub children_iff : (qs : List Pair) (p c : ℕ) → c ∈ children qs p ↔ record { parent = p; child = c } ∈ qs
unfolding children
children_iff qs p c = (
  for_map (λ q. q.child) (λ c. record { parent = p; child = c } ∈ qs) (keep of_p qs) (λ q m.
      let (k, t) = (keep_iff of_p qs q).0 m in
      Memᴰ.cast (ap {B = Pair} (λ x. record { parent = x; child = q.child }) (sym ((eqb_alike q.parent p).0 t))) k) c,
  λ m. Memᴰ.map (λ q. q.child) ((keep_iff of_p qs (record { parent = p; child = c })).1 (m, eqb_refl p)),
)
  where
    of_p : Pair → Bool
    of_p q = eqb q.parent p

-- the children of a name where one more pair stands in front
children_cons : (q : Pair) (qs : List Pair) (p : ℕ) → children (q ∷ qs) p ≡ cond (eqb q.parent p) (q.child ∷ children qs p) (children qs p)
unfolding children keep
children_cons q qs p = go (eqb q.parent p)
  where
    rest : List Pair
    rest = keep (λ q. eqb q.parent p) qs

    go : (b : Bool) → map (λ q. q.child) (cond b (q ∷ rest) rest) ≡ cond b (q.child ∷ map (λ q. q.child) rest) (map (λ q. q.child) rest)
    go true = refl
    go false = refl

-- pairs of names in which no pair stands twice: below each name its children differ
pub record GoodPairs (qs : List Pair) : Type 0 where
  pub names : (q : Pair) → q ∈ qs → (q.parent ≤ max_name) × (q.child ≤ max_name)
  pub once : (p : ℕ) → T (not (twice (children qs p)))

-- a list of no pairs is good
pub no_pairs : GoodPairs []
unfolding children keep twice
no_pairs = record { names = λ q m. absurd (nowhere m); once = λ p. tt }

-- pairs are good exactly if the first holds names and does not stand again, and the rest are good
good_cons : (q : Pair) (qs : List Pair) → GoodPairs (q ∷ qs) ↔ ((q.parent ≤ max_name) × (q.child ≤ max_name) × (q ∈ qs → ⊥) × GoodPairs qs)
good_cons q qs = (
  λ g.
      let (a, b) = g.names q (here refl) in (
        a,
        b,
        λ m. new (g.once q.parent) m,
        record { names = λ r m. g.names r (there m); once = λ p. less p (eqb q.parent p) (rw children_cons at (g.once p)) },
      ),
  λ h. record {
    names = for_cons (λ q. (q.parent ≤ max_name) × (q.child ≤ max_name)) (h.0, h.1) h.3.names;
    once = λ p. rw children_cons (more h.2 p (h.3.once p) (eqb q.parent p) (eq? q.parent p));
  },
)
  where
    new : T (not (twice (children (q ∷ qs) q.parent))) → q ∈ qs → ⊥
    new h m =
        let apart = rw (children_cons, is_true (eqb q.parent q.parent) (eqb_refl q.parent)) at h in
        ((once_cons q.child (children qs q.parent)).0 apart).0 ((children_iff qs q.parent q.child).1 m)

    less : (p : ℕ) (b : Bool) → T (not (twice (cond b (q.child ∷ children qs p) (children qs p)))) → T (not (twice (children qs p)))
    less p true h = ((once_cons q.child (children qs p)).0 h).1
    less p false h = h

    more : (q ∈ qs → ⊥) → (p : ℕ) → T (not (twice (children qs p))) → (b : Bool) → Tells (q.parent ≡ p) b →
        T (not (twice (cond b (q.child ∷ children qs p) (children qs p))))
    more n p h true (passes e) = (once_cons q.child (children qs p)).1 (λ m. n ((children_iff qs q.parent q.child).0 (rw (← e) at m)), h)
    more n p h false (fails k) = h

-- what is read past the last pair
abbrev pub no_pair : Pair
no_pair = record { parent = 0; child = 0 }

-- pairs are good exactly if they hold names and no pair stands twice
pub good_pairs_iff : (qs : List Pair) → GoodPairs qs ↔ (((q : Pair) → q ∈ qs → (q.parent ≤ max_name) × (q.child ≤ max_name)) × Differ no_pair qs)
good_pairs_iff [] = (λ g. (g.names, λ i j p q. absurd (omega arith)), λ h. no_pairs)
good_pairs_iff (q ∷ qs) = (
  λ g. let (a, b, new, rest) = (good_cons q qs).0 g in (g.names, (differ_cons no_pair q qs).1 (new, ((good_pairs_iff qs).0 rest).1)),
  λ h.
      let (a, b) = h.0 q (here refl) in
      let (new, rest) = (differ_cons no_pair q qs).0 h.1 in
      (good_cons q qs).1 (a, b, new, (good_pairs_iff qs).1 (λ r m. h.0 r (there m), rest)),
)

-- the test of a pair's names passes exactly if both are 0 to 63
pub pair_named : (q : Pair) → T (is_name q.parent && is_name q.child) ↔ ((q.parent ≤ max_name) × (q.child ≤ max_name))
unfolding is_name
pair_named q = and_facts (is_name q.parent) (is_name q.child)
    (leb→le q.parent max_name, le→leb q.parent max_name) (leb→le q.child max_name, le→leb q.child max_name)

-- the test of a pair that stood before passes exactly if it is one of the earlier
pub pair_stood : (earlier : List Pair) (q : Pair) → T (stands q.child (children earlier q.parent)) ↔ q ∈ earlier
pair_stood earlier q = Iff.trans (stands_iff q.child (children earlier q.parent)) (children_iff earlier q.parent q.child)

-- the test of a pair that did not stand before passes exactly if it is none of the earlier
pub pair_new : (earlier : List Pair) (q : Pair) → T (not (stands q.child (children earlier q.parent))) ↔ (q ∈ earlier → ⊥)
pair_new earlier q =
    let stood : Bool = stands q.child (children earlier q.parent) in
    (λ t m. T_not stood t ((pair_stood earlier q).1 m), λ n. not_T stood (λ t. n ((pair_stood earlier q).0 t)))

-- a pair is accepted exactly if it holds names and did not stand before
pair_check_iff : (i : ℕ) (earlier : List Pair) (q : Pair) → pair_check i earlier q ≡ none ↔
    ((q.parent ≤ max_name) × (q.child ≤ max_name) × (q ∈ earlier → ⊥))
unfolding pair_check
pair_check_iff i earlier q = Iff.trans
    (first_iff _ _ (check_iff _ name_too_high i (pair_named q)) (last_iff _ (check_iff _ pair_again i (pair_new earlier q))))
    (λ h. (h.0.0, h.0.1, h.1), λ h. ((h.0, h.1), h.2))

-- pairs are accepted after earlier ones exactly if they are good and none of them stood before
pub pairs_check_iff : (i : ℕ) (earlier qs : List Pair) → pairs_check i earlier qs ≡ none ↔ (GoodPairs qs × ((q : Pair) → q ∈ qs → q ∈ earlier → ⊥))
unfolding pairs_check
pairs_check_iff i earlier [] = (λ h. (no_pairs, λ q m. absurd (nowhere m)), λ h. refl)
pairs_check_iff i earlier (q ∷ qs) =
    let below = pairs_check_iff (suc i) (q ∷ earlier) qs in
    let both = first_both (pair_check i earlier q) (pairs_check (suc i) (q ∷ earlier) qs) in (
      λ h.
          let (this, rest) = both.0 h in
          let (a, b, old) = (pair_check_iff i earlier q).0 this in
          let (good, new) = below.0 rest in
          ((good_cons q qs).1 (a, b, λ m. new q m (here refl), good), for_cons (λ q. q ∈ earlier → ⊥) old (λ r m k. new r m (there k))),
      λ h.
          let (a, b, single, good) = (good_cons q qs).0 h.0 in
          both.1 (
            (pair_check_iff i earlier q).1 (a, b, h.1 q (here refl)),
            below.1 (good, λ r m k. ⊎_elim (λ e. single (Memᴰ.cast (sym e) m)) (h.1 r (there m)) (here_or_there k)),
          ),
    )

-- the facts of refusals 1 to 3 that an accepted file has: an even length, at most 8,192, names, and no pair twice
pub record GoodFile (bytes : List ℕ) : Type 0 where
  pub even : length bytes % 2 ≡ 0
  pub small : length bytes ≤ max_file
  pub names : (q : Pair) → q ∈ pairs bytes → (q.parent ≤ max_name) × (q.child ≤ max_name)
  pub once : Differ no_pair (pairs bytes)

-- the pairs of a good file are good
pub pairs_good : (bytes : List ℕ) → GoodFile bytes → GoodPairs (pairs bytes)
pairs_good bytes g = (good_pairs_iff (pairs bytes)).1 (g.names, g.once)

-- the test of a file's length passes exactly if it is even and at most 8,192
pub length_iff : (bytes : List ℕ) → T (eqb (length bytes % 2) 0 && leb (length bytes) max_file) ↔ ((length bytes % 2 ≡ 0) × (length bytes ≤ max_file))
length_iff bytes = and_facts (eqb (length bytes % 2) 0) (leb (length bytes) max_file) (eqb_alike (length bytes % 2) 0)
    (leb→le (length bytes) max_file, le→leb (length bytes) max_file)

-- a file is accepted exactly if the facts of refusals 1 to 3 hold
pub file_check_iff : (bytes : List ℕ) → file_check bytes ≡ none ↔ GoodFile bytes
unfolding file_check
file_check_iff bytes = Iff.trans (first_iff _ _ (check_iff _ file_length 0 (length_iff bytes)) (last_iff _ (pairs_check_iff 0 [] (pairs bytes)))) (
  λ h.
      let (names, once) = (good_pairs_iff (pairs bytes)).0 h.1.0 in
      record { even = h.0.0; small = h.0.1; names = names; once = once },
  λ g. ((g.even, g.small), (pairs_good bytes g, λ q m. nowhere)),
)
