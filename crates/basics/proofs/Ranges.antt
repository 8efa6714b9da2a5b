-- The numbers below a bound.
use mathlib.Core.Path.{◌≡◌, refl, ◌∙◌}
use mathlib.Core.Logic.{◌↔◌, ⊎_elim, by_cases}
use mathlib.Core.Bool.{Bool}
use mathlib.Core.List.Memᴰ
use mathlib.Core.List.{[], ◌∷◌, map, map-append}
use Prim.Native.Nat.{ℕ, zero, suc, ◌<◌}
use native.Mathlib.Decide.{dec_lt}
use native.Mathlib.Nat.{not-suc-le-zero}
use native.Mathlib.Numerals.{add-one}
use native.Mathlib.Omega.{arith}
use lib.ListN.{length, get_or, length-append, length-map, get_or-append}
use lib.Seq.{get_or_at}
use lib.Dec.{T, ltb, lt→ltb}
use Rattle.basics.specs.Basics.{◌∈◌, all, up_to, Ascending, none_left, one_more_lem}
use Rattle.basics.proofs.Tests.{and_iff}
use Rattle.basics.proofs.Lists.{here, nowhere, only_one, either_part, append_ascending, all_snoc}

-- the list of the numbers below n has n members
pub length-up_to : (n : ℕ) → length (up_to n) ≡ n
unfolding up_to
length-up_to zero = refl
length-up_to (suc n) = rw (length-append, length-up_to n, add-one)

-- a list made from the numbers up to n has at i what is made from i
pub map-up_to : {A : Type 0} (f : ℕ → A) (d : A) (n i : ℕ) → i < n → get_or (map f (up_to n)) i d ≡ f i
unfolding up_to
map-up_to f d zero i h = absurd (not-suc-le-zero h)
map-up_to f d (suc n) i h =
    let long : length (map f (up_to n)) ≡ n = length-map (up_to n) f ∙ length-up_to n in
    rw map-append (by_cases (dec_lt i n)
    (λ p. get_or-append (map f (up_to n)) (f n ∷ []) d i (omega arith) ∙ map-up_to f d n i p)
    (λ p. let e : i ≡ n = omega arith in rw e (get_or_at (map f (up_to n)) (f n) [] d n long)))

-- the members of the list up to n are the numbers below n
pub up_to_iff : (n d : ℕ) → d ∈ up_to n ↔ (d < n)
unfolding up_to
up_to_iff zero d = (λ h. absurd (nowhere h), λ h. absurd (not-suc-le-zero h))
up_to_iff (suc n) d = (
  λ h. ⊎_elim (λ k. let l : d < n = (up_to_iff n d).0 k in omega arith) (λ k. let e : d ≡ n = only_one k in omega arith) (either_part (up_to n) h),
  λ h. by_cases (dec_lt d n) (λ l. Memᴰ.append_left (n ∷ []) ((up_to_iff n d).1 l)) (λ l. Memᴰ.append_right (up_to n) (here (omega arith))),
)

-- the list of the numbers below n is ascending
pub up_to_ascending : (n : ℕ) → Ascending ltb (up_to n)
unfolding up_to
up_to_ascending zero = none_left
up_to_ascending (suc n) = append_ascending (up_to_ascending n) (one_more_lem (λ b k. absurd (nowhere k)) none_left)
    (λ a b p q. rw (only_one q) (lt→ltb a n ((up_to_iff n a).0 p)))

-- all numbers of the list up to n pass a test exactly if every number below n does
pub all_up_to : (f : ℕ → Bool) (n : ℕ) → T (all f (up_to n)) ↔ ((i : ℕ) → i < n → T (f i))
unfolding up_to all
all_up_to f zero = (λ h i p. absurd (not-suc-le-zero p), λ h. tt)
all_up_to f (suc n) = (
  λ h i p. let q = (and_iff (all f (up_to n)) (f n)).0 (rw all_snoc at h) in
      by_cases (dec_lt i n) ((all_up_to f n).0 q.0 i) (λ k. let e : i ≡ n = omega arith in rw e q.1),
  λ h. rw all_snoc ((and_iff (all f (up_to n)) (f n)).1 ((all_up_to f n).1 (λ i p. h i (omega arith)), h n (omega arith))),
)
