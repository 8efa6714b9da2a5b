-- Where the bar of a line stands, and the row that the bytes left give.
use Prim.Native.Nat.{ℕ, zero, suc, ◌+◌, ◌<◌, ◌≤◌}
use mathlib.Core.Path.{◌≡◌, refl, ap}
use mathlib.Core.List.{List, [], ◌∷◌}
use mathlib.Core.Bool.{Bool}
use native.Mathlib.Omega.{arith}
use lib.ListN.{length, get_or, drop, drop_of_length-le}
use borrow.Author.Tests.{eq-eqb, ne_eqb}
use Rattle.basics.proofs.Scans.{from_cons}
use Rattle.case_lines.specs.Lines.{bar_of, digit, with_byte, numbers_of}

-- the bar of a line is its first byte that is one
pub bar_found : (l : List ℕ) (i : ℕ) → i < length l → get_or l i 0 ≡ 124 → ((k : ℕ) → k < i → get_or l k 0 ≡ 124 → ⊥) → i ≡ bar_of l
unfolding bar_of
bar_found [] i h e before = absurd (omega arith)
bar_found (b ∷ more) zero h e before = rw (eq-eqb b 124 e)
bar_found (b ∷ more) (suc i) h e before = rw (ne_eqb b 124 (before 0 (omega arith))) (ap suc (bar_found more i (omega arith) e (λ k below. before (suc k) (omega arith))))

-- a line none of whose bytes is a bar has it at its end
pub no_bar : (l : List ℕ) → ((k : ℕ) → k < length l → get_or l k 0 ≡ 124 → ⊥) → length l ≡ bar_of l
unfolding bar_of
no_bar [] none = refl
no_bar (b ∷ more) none = rw (ne_eqb b 124 (none 0 (omega arith))) (ap suc (no_bar more (λ k below. none (suc k) (omega arith))))

-- bytes read up to place i: the row that the rest gives is that of all
module _ (all bytes row : List ℕ) (i : ℕ) (inside : Bool) (inv : all ≡ numbers_of inside (drop i bytes) row) where
  -- with one byte more read, the rest behind it gives the row of all
  pub row_on : i < length bytes → {d : Bool} {row₁ : List ℕ} → d ≡ digit (get_or bytes i 0) → row₁ ≡ with_byte inside (get_or bytes i 0) row
      → all ≡ numbers_of d (drop (i + 1) bytes) row₁
  unfolding numbers_of
  row_on h is next = rw (inv, from_cons bytes i 0, is, next)

  -- with no byte left, the row is that of all
  pub row_end : length bytes ≤ i → row ≡ all
  unfolding numbers_of
  row_end h = rw (inv, drop_of_length-le bytes h)
