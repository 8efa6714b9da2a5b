-- How many members at the front of a list pass a test.
use Prim.Native.Nat.{ℕ, zero, suc, ◌+◌, ◌-◌, ◌/◌, ◌<◌, ◌≤◌}
use mathlib.Core.Path.{◌≡◌, refl, subst}
use mathlib.Core.Logic.{by_cases}
use mathlib.Core.Bool.{Bool, true, false, cond}
use mathlib.Core.List.{List, [], ◌∷◌}
use native.Mathlib.Omega.{arith}
use native.Mathlib.Decide.{dec_lt}
use lib.ListN.{length, get_or}
use lib.Dec.{T}
use Rattle.basics.specs.Basics.{leading, Ascending, none_left, one_more_lem}
use Rattle.basics.proofs.Tests.{is_true, is_false}
use Rattle.basics.proofs.Lists.{member_at}

-- the middle of a part of a list's places is a place of the list
pub middle_in : {low high count : ℕ} → low < high → high ≤ count → low + (high - low) / 2 < count
middle_in h k = omega arith

module _ {A : Type 0} (f : A → Bool) where
  -- at most as many members lead as there are
  pub leading_most : (es : List A) → leading f es ≤ length es
  unfolding leading
  leading_most [] = omega arith
  leading_most (a ∷ es) = go (f a) (leading_most es)
    where
      go : (c : Bool) → leading f es ≤ length es → cond c (suc (leading f es)) 0 ≤ suc (length es)
      go true h = omega arith
      go false h = omega arith

  -- a first member that passes the test leads
  leading_suc : (a : A) (es : List A) → T (f a) → leading f (a ∷ es) ≡ suc (leading f es)
  unfolding leading
  leading_suc a es h = rw (is_true (f a) h)

  -- where the first member fails the test, none leads
  pub leading_zero : (a : A) (es : List A) → (T (f a) → ⊥) → leading f (a ∷ es) ≡ 0
  unfolding leading
  leading_zero a es h = rw (is_false (f a) h)

  module _ (d : A) where
    -- each leading member passes the test
    pub leading_passes : (es : List A) (i : ℕ) → i < leading f es → T (f (get_or es i d))
    unfolding leading
    leading_passes [] i h = absurd (omega arith)
    leading_passes (a ∷ es) i h = go (f a) refl i h (leading_passes es)
      where
        go : (c : Bool) → f a ≡ c → (i : ℕ) → i < cond c (suc (leading f es)) 0 → ((i : ℕ) → i < leading f es → T (f (get_or es i d))) → T (f (get_or (a ∷ es) i d))
        go true e zero h below = rw e tt
        go true e (suc i) h below = below i (omega arith)
        go false e i h below = absurd (omega arith)

    -- no member leads from one on that fails the test
    pub leading_under : (es : List A) (i : ℕ) → (T (f (get_or es i d)) → ⊥) → leading f es ≤ i
    leading_under es i n = by_cases (dec_lt i (leading f es)) (λ h. absurd (n (leading_passes es i h))) (λ h. omega arith)

    -- the member behind the leading ones fails the test
    pub leading_stops : (es : List A) → leading f es < length es → T (f (get_or es (leading f es) d)) → ⊥
    unfolding leading
    leading_stops [] h = absurd (omega arith)
    leading_stops (a ∷ es) h = go (f a) refl h (leading_stops es)
      where
        go : (c : Bool) → f a ≡ c → cond c (suc (leading f es)) 0 < suc (length es) → (leading f es < length es → T (f (get_or es (leading f es) d)) → ⊥) →
            T (f (get_or (a ∷ es) (cond c (suc (leading f es)) 0) d)) → ⊥
        go true e h below t = below (omega arith) t
        go false e h below t = subst T e t

    -- a member of an ascending list is reached where all that come before it pass the test
    pub leading_reaches : {less : A → A → Bool} {es : List A} → Ascending less es → (i : ℕ) → i < length es →
        ((a : A) → T (less a (get_or es i d)) → T (f a)) → i ≤ leading f es
    leading_reaches none_left i h k = absurd (omega arith)
    leading_reaches (one_more_lem {a} {more} u r) zero h k = omega arith
    leading_reaches (one_more_lem {a} {more} u r) (suc i) h k =
        let t = k a (u (get_or more i d) ((member_at d more (get_or more i d)).1 (i, omega arith, refl))) in
        omega (arith, leading_suc a more t, leading_reaches r i (omega arith) k)
