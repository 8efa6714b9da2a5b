-- A pair of numbers put in a lent slice as far as there is room.
use Prim.Native.Nat.{ℕ, ◌<◌, ◌≤◌}
use mathlib.Core.Path.{◌≡◌, refl, sym, ap}
use mathlib.Core.List.{List, [], ◌∷◌, ◌++◌}
use native.Mathlib.Omega.{arith}
use lib.ListN.{length, set}
use lib.Seq.{take_all}
use Rattle.host_answers.specs.Reports.{fitted}

module _ (x y : ℕ) where
  -- a pair that finds no room leaves the slice as it was
  pub pair_none : (a : List ℕ) → length a < 1 → a ≡ fitted (x ∷ y ∷ []) a
  unfolding fitted
  pair_none [] h = refl
  pair_none (b ∷ a) h = absurd (omega arith)

  -- where there is room for one number, the first of a pair is put
  pub pair_one : (a : List ℕ) → 1 ≤ length a → length a < 2 → set a 0 x ≡ fitted (x ∷ y ∷ []) a
  unfolding fitted
  pair_one [] h k = absurd (omega arith)
  pair_one (b ∷ []) h k = refl
  pair_one (b ∷ c ∷ a) h k = absurd (omega arith)

  -- where there is room for two numbers, the pair is put
  pub pair_both : (a : List ℕ) → 2 ≤ length a → set (set a 0 x) 1 y ≡ fitted (x ∷ y ∷ []) a
  unfolding fitted
  pair_both [] h = absurd (omega arith)
  pair_both (b ∷ []) h = absurd (omega arith)
  pair_both (b ∷ c ∷ a) h = ap (λ l. x ∷ y ∷ (l ++ a)) (sym (take_all {A = ℕ} (length a) [] (omega arith)))
