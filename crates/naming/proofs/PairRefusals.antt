-- The refusals of a child-name file, 1 to 3: each by its facts, with the pair that it names.
use mathlib.Core.Path.{◌≡◌, refl, sym, subst, ◌∙◌}
use mathlib.Core.Logic.Iff
use mathlib.Core.Logic.{◌↔◌, ◌⊎◌, inl, inr, ⊎_elim, by_cases}
use mathlib.Core.Bool.{Bool, true, false}
use mathlib.Core.List.{List, [], ◌∷◌, reverse_aux}
use mathlib.Core.Option.{none, some, none-ne-some}
use Prim.Native.Nat.{ℕ, zero, suc, ◌+◌, ◌%◌, ◌≤◌, ◌<◌}
use native.Mathlib.Decide.{dec_lt}
use native.Mathlib.Nat.{zero-add}
use native.Mathlib.Omega.{arith}
use lib.ListN.{length, get_or, take}
use lib.Dec.{T}
use Rattle.basics.specs.Basics.{◌∈◌, stands}
use Rattle.basics.specs.Limits.{max_name, max_file}
use Rattle.basics.specs.Refusals.{Refusal, refuse, check, first, file_length, name_too_high, pair_again}
use Rattle.naming.specs.Names.{Pair, pairs, children, pair_check, pairs_check, file_check}
use Rattle.basics.proofs.Tests.{decide}
use Rattle.basics.proofs.Lists.{nowhere, reverse_mem}
use Rattle.basics.proofs.Refusals.{check_none, check_passed, check_refuses, refuse_number, first_last, first_both, first_here, first_next, first_some, Never, Other, each_none, each_check, each_first, each_last}
use Rattle.naming.proofs.Once.{Differ}
use Rattle.naming.proofs.NamePairs.{no_pair, good_pairs_iff, pair_named, pair_stood, pair_new, pairs_check_iff, length_iff}

-- Of two checks the first gives its number exactly if its fact does not hold.
-- The second gives its number exactly if the first's fact holds and its own does not.
two_checks : {P Q : Type 0} (a b : Bool) (m n i : ℕ) → (m ≡ n → ⊥) → T a ↔ P → T b ↔ Q →
    (first (check a m i ∷ check b n i ∷ []) ≡ refuse m i ↔ (P → ⊥)) × (first (check a m i ∷ check b n i ∷ []) ≡ refuse n i ↔ (P × (Q → ⊥)))
unfolding check first
two_checks true true m n i other e f = (
  (λ h. absurd (none-ne-some _ h), λ h. absurd (h (e.0 tt))),
  (λ h. absurd (none-ne-some _ h), λ h. absurd (h.1 (f.0 tt))),
)
two_checks true false m n i other e f = (
  (λ h. absurd (other (sym (refuse_number h))), λ h. absurd (h (e.0 tt))),
  (λ h. (e.0 tt, f.1), λ h. refl),
)
two_checks false b m n i other e f = ((λ h. e.1, λ h. refl), (λ h. absurd (other (refuse_number h)), λ h. absurd (e.1 h.0)))

module _ (i : ℕ) (earlier : List Pair) (q : Pair) where
  -- a pair is refused by 2 or by 3, as the facts of its two checks say
  pair_numbers : (pair_check i earlier q ≡ refuse name_too_high i ↔ (((q.parent ≤ max_name) × (q.child ≤ max_name)) → ⊥)) ×
      (pair_check i earlier q ≡ refuse pair_again i ↔ (((q.parent ≤ max_name) × (q.child ≤ max_name)) × ((q ∈ earlier → ⊥) → ⊥)))
  unfolding pair_check
  pair_numbers = two_checks _ _ name_too_high pair_again i (λ e. omega arith) (pair_named q) (pair_new earlier q)

  -- a pair is refused by 2 exactly if one of its names is above 63
  pair_high : pair_check i earlier q ≡ refuse name_too_high i ↔ ((max_name < q.parent) ⊎ (max_name < q.child))
  pair_high = Iff.trans pair_numbers.0 (
    λ n. by_cases (dec_lt max_name q.parent) inl (λ a. by_cases (dec_lt max_name q.child) inr (λ b. absurd (n (omega arith, omega arith)))),
    ⊎_elim (λ h n. omega (arith, n.0)) (λ h n. omega (arith, n.1)),
  )

  -- a pair is refused by 3 exactly if it holds names and stood before
  pair_again_lem : pair_check i earlier q ≡ refuse pair_again i ↔ (((q.parent ≤ max_name) × (q.child ≤ max_name)) × q ∈ earlier)
  pair_again_lem = Iff.trans pair_numbers.1 (
    λ h. (h.0, ⊎_elim (pair_stood earlier q).0 (λ n. absurd (h.1 (λ m. n ((pair_stood earlier q).1 m)))) (decide (stands q.child (children earlier q.parent)))),
    λ h. (h.0, λ n. n h.1),
  )

-- pair j is the first that is refused of some pairs that come after earlier ones
record Fault (i : ℕ) (earlier qs : List Pair) (j : ℕ) (r : Refusal) : Type 0 where
  inside : j < length qs
  accepted : pairs_check i earlier (take j qs) ≡ none
  refused : pair_check (i + j) (reverse_aux (take j qs) earlier) (get_or qs j no_pair) ≡ some r

-- where pairs are refused, one of them is the first that is refused
fault_told : (i : ℕ) (earlier qs : List Pair) (r : Refusal) → pairs_check i earlier qs ≡ some r → (j : ℕ) × Fault i earlier qs j r
unfolding pairs_check
fault_told i earlier [] r e = absurd (none-ne-some r e)
fault_told i earlier (q ∷ qs) r e = ⊎_elim now (λ h. later h.0 (fault_told (suc i) (q ∷ earlier) qs r (sym (first_last _) ∙ h.1))) (first_some _ _ r e)
  where
    now : pair_check i earlier q ≡ some r → (j : ℕ) × Fault i earlier (q ∷ qs) j r
    now d = let z : i + 0 ≡ i = omega arith in (0, record { inside = omega arith; accepted = refl; refused = rw z d })

    later : pair_check i earlier q ≡ none → (j : ℕ) × Fault (suc i) (q ∷ earlier) qs j r → (j : ℕ) × Fault i earlier (q ∷ qs) j r
    later d f =
        let (j, h) = f in
        let z : i + suc j ≡ suc i + j = omega arith in
        (suc j, record { inside = omega (arith, h.inside); accepted = first_next _ _ d ∙ h.accepted; refused = rw z h.refused })

-- pairs are refused as the first refused one among them is
fault_says : (i : ℕ) (earlier qs : List Pair) (j : ℕ) (r : Refusal) → Fault i earlier qs j r → pairs_check i earlier qs ≡ some r
unfolding pairs_check
fault_says i earlier [] j r f = absurd (omega (arith, f.inside))
fault_says i earlier (q ∷ qs) zero r f = let z : i + 0 ≡ i = omega arith in first_here r _ _ (rw z at f.refused)
fault_says i earlier (q ∷ qs) (suc j) r f =
    let z : i + suc j ≡ suc i + j = omega arith in
    let (this, rest) = (first_both _ _).0 f.accepted in
    first_next _ _ this ∙ fault_says (suc i) (q ∷ earlier) qs j r (record { inside = omega (arith, f.inside); accepted = rest; refused = rw z at f.refused })

-- a pair is refused at its own place
pair_check_place : (i : ℕ) (earlier : List Pair) (q : Pair) (r : Refusal) → pair_check i earlier q ≡ some r → r.place ≡ i
unfolding pair_check
pair_check_place i earlier q =
    let P : Refusal → Type 0 = λ r. r.place ≡ i in
    each_first P _ _ (each_check P _ name_too_high i refl) (each_last P _ (each_check P _ pair_again i refl))

-- the pairs of a file are never refused by 1
pairs_never : (i : ℕ) (earlier qs : List Pair) → Never file_length (pairs_check i earlier qs)
unfolding pairs_check pair_check
pairs_never i earlier [] = each_none (Other file_length)
pairs_never i earlier (q ∷ qs) =
    let P = Other file_length in
    each_first P _ _
    (each_first P _ _ (each_check P _ name_too_high i (λ e. omega arith)) (each_last P _ (each_check P _ pair_again i (λ e. omega arith))))
    (each_last P _ (pairs_never (suc i) (q ∷ earlier) qs))

-- pair j of a file of an accepted length: the pairs before it hold names, and none of them stands twice
pub record AtPair (bytes : List ℕ) (j : ℕ) : Type 0 where
  pub even : length bytes % 2 ≡ 0
  pub small : length bytes ≤ max_file
  pub inside : j < length (pairs bytes)
  pub names : (q : Pair) → q ∈ take j (pairs bytes) → (q.parent ≤ max_name) × (q.child ≤ max_name)
  pub once : Differ no_pair (take j (pairs bytes))

module _ (bytes : List ℕ) where
  -- a file is refused by a number other than 1 exactly if its length is accepted
  -- and its pairs are refused by that number
  file_pairs : (n j : ℕ) → (file_length ≡ n → ⊥) →
      file_check bytes ≡ refuse n j ↔ (((length bytes % 2 ≡ 0) × (length bytes ≤ max_file)) × (pairs_check 0 [] (pairs bytes) ≡ refuse n j))
  unfolding file_check
  file_pairs n j other = (
    λ e. ⊎_elim (λ h. absurd (each_check (Other n) _ file_length 0 other _ h refl)) (λ h. ((length_iff bytes).0 (check_none _ file_length 0 h.0), sym (first_last _) ∙ h.1))
        (first_some _ _ _ e),
    λ h. first_next _ _ (check_passed _ file_length 0 ((length_iff bytes).1 h.0)) ∙ h.1,
  )

  -- a file is refused by 1 exactly if its length is odd or over 8,192
  pub one_iff : file_check bytes ≡ refuse file_length 0 ↔ (((length bytes % 2 ≡ 0) × (length bytes ≤ max_file)) → ⊥)
  unfolding file_check
  one_iff = (
    λ e. ⊎_elim (check_refuses _ file_length 0 (length_iff bytes)).0 (λ h. absurd (pairs_never 0 [] (pairs bytes) _ (sym (first_last _) ∙ h.1) refl)) (first_some _ _ _ e),
    λ n. first_here _ _ _ ((check_refuses _ file_length 0 (length_iff bytes)).1 n),
  )

  module _ (n j : ℕ) (other : file_length ≡ n → ⊥) where
    -- A file is refused at a pair by a number other than 1 exactly if the pairs before it are good
    -- and the pair is refused by that number.
    file_at : file_check bytes ≡ refuse n j ↔
        (AtPair bytes j × (pair_check j (reverse_aux (take j (pairs bytes)) []) (get_or (pairs bytes) j no_pair) ≡ refuse n j))
    file_at = Iff.trans (file_pairs n j other) (
      λ h.
          let (k, f) = fault_told 0 [] (pairs bytes) _ h.1 in
          let at : k ≡ j = omega (arith, pair_check_place _ _ _ _ f.refused) in
          let g : Fault 0 [] (pairs bytes) j (record { number = n; place = j }) = subst (λ k. Fault 0 [] (pairs bytes) k (record { number = n; place = j })) at f in
          let (names, once) = (good_pairs_iff (take j (pairs bytes))).0 ((pairs_check_iff 0 [] (take j (pairs bytes))).0 g.accepted).0 in (
            record { even = h.0.0; small = h.0.1; inside = g.inside; names = names; once = once },
            rw zero-add at g.refused,
          ),
      λ h. (
        (h.0.even, h.0.small),
        fault_says 0 [] (pairs bytes) j _ (record {
          inside = h.0.inside;
          accepted = (pairs_check_iff 0 [] (take j (pairs bytes))).1 ((good_pairs_iff (take j (pairs bytes))).1 (h.0.names, h.0.once), λ q m. nowhere);
          refused = rw zero-add h.1;
        }),
      ),
    )

  -- a file is refused by 2 at a pair exactly if the pairs before it are good and one of its names is above 63
  pub two_iff : (j : ℕ) → file_check bytes ≡ refuse name_too_high j ↔
      (AtPair bytes j × ((max_name < (get_or (pairs bytes) j no_pair).parent) ⊎ (max_name < (get_or (pairs bytes) j no_pair).child)))
  two_iff j = Iff.trans (file_at name_too_high j (λ e. omega arith)) (Iff.and Iff.rfl (pair_high j _ (get_or (pairs bytes) j no_pair)))

  -- A file is refused by 3 at a pair exactly if the pairs before it are good, the pair's names are 0 to 63
  -- and the pair is one of those before it.
  pub three_iff : (j : ℕ) → file_check bytes ≡ refuse pair_again j ↔
      (AtPair bytes j × ((((get_or (pairs bytes) j no_pair).parent ≤ max_name) × ((get_or (pairs bytes) j no_pair).child ≤ max_name)) ×
      get_or (pairs bytes) j no_pair ∈ take j (pairs bytes)))
  three_iff j = Iff.trans (file_at pair_again j (λ e. omega arith)) (Iff.and Iff.rfl
      (Iff.trans (pair_again_lem j _ (get_or (pairs bytes) j no_pair)) (Iff.and Iff.rfl (Iff.trans (reverse_mem (take j (pairs bytes)) [] _) front))))
    where
      front : {q : Pair} → (q ∈ take j (pairs bytes) ⊎ q ∈ []) ↔ q ∈ take j (pairs bytes)
      front = (⊎_elim (λ h. h) (λ h. absurd (nowhere h)), inl)
