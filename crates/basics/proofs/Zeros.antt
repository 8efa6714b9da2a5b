-- Trailing zeros: of odd and even numbers, and of a number with other digits below it.
use Prim.Native.Nat.{ℕ, zero, suc, ◌+◌, ◌*◌, ◌/◌, ◌%◌, ◌^◌, ◌<◌, suc-le-suc}
use mathlib.Core.Path.{◌≡◌, refl, sym, ap, ap₂, subst, ◌∙◌}
use mathlib.Core.Logic.{◌⊎◌, inl, inr, ⊎_elim}
use native.Mathlib.Nat.{mod-lt, mul_assoc, pow-suc, add-zero, mul-one, zero-add}
use native.Mathlib.Omega.{arith}
use lib.Count.{count_trailing_zeros}

-- the lowest binary digit is 0 or 1
pub low_digit : (m : ℕ) → (m % 2 ≡ 0) ⊎ (m % 2 ≡ 1)
low_digit m = go (m % 2) (mod-lt m (omega arith))
  where
    go : (r : ℕ) → r < 2 → (r ≡ 0) ⊎ (r ≡ 1)
    go zero h = inl refl
    go (suc zero) h = inr refl
    go (suc (suc r)) h = absurd (omega arith)

-- an odd number has no trailing zero
pub trailing_odd : (k m : ℕ) → m % 2 ≡ 1 → count_trailing_zeros (suc k) m ≡ 0
unfolding count_trailing_zeros
trailing_odd k m e = rw e

-- an even number has one trailing zero more than its half
pub trailing_even : (k m : ℕ) → m % 2 ≡ 0 → count_trailing_zeros (suc k) m ≡ suc (count_trailing_zeros k (m / 2))
unfolding count_trailing_zeros
trailing_even k m e = rw e

-- a number moved up by j + 1 binary digits is twice the number moved up by j
doubled : (m j r : ℕ) → m * 2 ^ suc j + r ≡ m * 2 ^ j * 2 + r
doubled m j r = ap (λ x. x + r) (ap (λ p. m * p) (pow-suc 2 j) ∙ sym (mul_assoc m (2 ^ j) 2))

module _ (k m : ℕ) where
  -- j digits below that are all 0 add j to the trailing zeros
  pub trailing_above : (j : ℕ) → count_trailing_zeros (k + j) (m * 2 ^ j + 0) ≡ j + count_trailing_zeros k m
  trailing_above zero = ap₂ count_trailing_zeros (add-zero k) (add-zero (m * 2 ^ 0) ∙ mul-one m) ∙ sym (zero-add _)
  trailing_above (suc j) =
      let longer : k + suc j ≡ suc (k + j) = omega arith in
      let x : ℕ = m * 2 ^ j in
      let even : (x * 2 + 0) % 2 ≡ 0 = omega arith in
      let half : (x * 2 + 0) / 2 ≡ x + 0 = omega arith in
      ap₂ count_trailing_zeros longer (doubled m j 0) ∙ trailing_even (k + j) (x * 2 + 0) even ∙ ap (λ n. suc (count_trailing_zeros (k + j) n)) half ∙
      ap suc (trailing_above j) ∙ omega arith

  -- j digits below that are not all 0 hold the end of the trailing zeros
  pub trailing_below : (j r : ℕ) → 0 < r → r < 2 ^ j → count_trailing_zeros (k + j) (m * 2 ^ j + r) < j
  trailing_below zero r low high = absurd (omega arith)
  trailing_below (suc j) r low high =
      let longer : k + suc j ≡ suc (k + j) = omega arith in
      let x : ℕ = m * 2 ^ j in
      let small : r < 2 ^ j * 2 = subst (λ p. r < p) (pow-suc 2 j) high in
      subst (λ n. n < suc j) (sym (ap₂ count_trailing_zeros longer (doubled m j r))) (⊎_elim
      (λ e.
      let even : (x * 2 + r) % 2 ≡ 0 = omega arith in
      let half : (x * 2 + r) / 2 ≡ x + r / 2 = omega arith in
      subst (λ n. n < suc j) (sym (trailing_even (k + j) (x * 2 + r) even ∙ ap (λ n. suc (count_trailing_zeros (k + j) n)) half))
      (suc-le-suc (trailing_below j (r / 2) (omega arith) (omega arith))))
      (λ e. let odd : (x * 2 + r) % 2 ≡ 1 = omega arith in omega (arith, trailing_odd (k + j) (x * 2 + r) odd))
      (low_digit r))
