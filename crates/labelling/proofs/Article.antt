-- `number` agrees with rules 2.1 and 2.2 of source document 004, but for one corner:
-- to a child of place 0 after a left sibling whose number leaves 0 the rules give the sibling's number again.
use mathlib.Core.Path.{◌≡◌, ap, ◌∙◌}
use mathlib.Core.Bool.{cond}
use mathlib.Core.Option.{none, some}
use Prim.Native.Nat.{ℕ, suc, ◌+◌, ◌-◌, ◌*◌, ◌/◌, ◌%◌, ◌≤◌, ◌<◌}
use native.Mathlib.Nat.{pos_of_ne-zero, mod-lt, div-add-mod', zero-mul, suc-mul, div-eq_of_lt-le}
use native.Mathlib.Numerals.{add-one}
use native.Mathlib.Omega.{arith}
use Rattle.labelling.specs.Numbers.{number, Least, article_number}
use Rattle.basics.proofs.Tests.{passes, fails, le?}
use Rattle.labelling.proofs.Number.{least_at_lem, number_least}

-- no two numbers are the least that is at least f and leaves k
pub least_unique : (n k f x y : ℕ) → Least n k f x → Least n k f y → x ≡ y
least_unique n k f x y a b = omega (arith, a.least y b.high b.leaves, b.least x a.high a.leaves)

-- a number that leaves k, is at least f and less than a round above f is the one that `number` gives
pub number_at : (n k f q : ℕ) → k < n → f ≤ q * n + k → q * n + k < f + n → number n k f ≡ q * n + k
number_at n k f q small up down = least_unique n k f _ _ (number_least n k f small) (least_at_lem n k f q small up down)

-- the first child gets its place, by the rules and by `number`
pub article_first : (n k : ℕ) → k < n → number n k 0 ≡ article_number n k none
unfolding article_number
article_first n k small =
    let z = zero-mul n in
    let e : 0 * n + k ≡ k = omega arith in
    number_at n k 0 0 small (omega arith) (omega arith) ∙ e

-- a number that leaves a remainder is rounded up to the next multiple
rounded_up : (n y : ℕ) → 0 < n → 0 < y % n → (y + (n - 1)) / n * n ≡ y / n * n + n
rounded_up n y pos left =
    let d = div-add-mod' y n in
    let b : y % n < n = mod-lt y pos in
    let s = suc-mul (y / n) n in
    let t = suc-mul (suc (y / n)) n in
    ap (λ q. q * n) (div-eq_of_lt-le n (omega arith) (rw (add-one (suc (y / n))) (omega arith))) ∙ s

-- a number that leaves no remainder is not changed by rounding up
rounded_even : (n y : ℕ) → 0 < n → y % n ≡ 0 → (y + (n - 1)) / n * n ≡ y
rounded_even n y pos even =
    let d = div-add-mod' y n in
    let s = suc-mul (y / n) n in
    let e : y / n * n ≡ y = omega arith in
    ap (λ q. q * n) (div-eq_of_lt-le n (omega arith) (rw (add-one (y / n)) (omega arith))) ∙ e

-- after a left sibling the rules and `number` agree, except for place 0 after a number that leaves 0
pub article_agrees : (n k y : ℕ) → k < n → ((k ≡ 0) × (y % n ≡ 0) → ⊥) → number n k (y + 1) ≡ article_number n k (some y)
unfolding article_number
article_agrees n k y small off =
    let d = div-add-mod' y n in
    let b : y % n < n = mod-lt y (omega arith) in
    elim (le? (suc (y % n)) k) as (λ b _. number n k (y + 1) ≡ cond b (y / n * n + k) ((y + (n - 1)) / n * n + k)) [
      | passes h ↦ number_at n k (y + 1) (y / n) small (omega arith) (omega arith)
      | fails h ↦
          let left : 0 < y % n = pos_of_ne-zero (λ e. off (omega arith, e)) in
          let r = rounded_up n y (omega arith) left in
          number_at n k (y + 1) ((y + (n - 1)) / n) small (omega arith) (omega arith)
    ]

-- To place 0 after a number that leaves 0 the rules give that number again, and `number` the next that leaves 0.
pub article_corner : (n y : ℕ) → 0 < n → y % n ≡ 0 → (article_number n 0 (some y) ≡ y) × (number n 0 (y + 1) ≡ y + n)
unfolding article_number
article_corner n y pos even = (
  elim (le? (suc (y % n)) 0) as (λ b _. cond b (y / n * n + 0) ((y + (n - 1)) / n * n + 0) ≡ y) [
    | passes h ↦ absurd (omega arith)
    | fails h ↦ omega (arith, rounded_even n y pos even)
  ],
  let d = div-add-mod' y n in
      let s = suc-mul (y / n) n in
      let e : suc (y / n) * n + 0 ≡ y + n = omega arith in
      number_at n 0 (y + 1) (suc (y / n)) pos (omega arith) (omega arith) ∙ e,
)

-- a number given is at least the next number and less than a round above it
pub number_above : (n k f : ℕ) → k < n → (f ≤ number n k f) × (number n k f < f + n)
unfolding number
number_above n k f small = (
  (number_least n k f small).high,
  let d = div-add-mod' f n in
      elim (le? (f % n) k) as (λ b _. cond b (f - f % n + k) (f - f % n + n + k) < f + n) [
        | passes h ↦ omega arith
        | fails h ↦ omega arith
      ],
)
