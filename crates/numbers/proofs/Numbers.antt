-- What each way out of the code that gives numbers tells of `number_for`.
use Prim.Native.Nat.{ℕ, ◌+◌, ◌-◌, ◌%◌, ◌<◌, ◌≤◌}
use mathlib.Core.Path.{◌≡◌, refl, ap, ◌∙◌}
use mathlib.Core.Bool.{Bool, true, false, cond}
use native.Mathlib.Omega.{arith}
use lib.Dec.{leb}
use borrow.Author.Tests.{le-ltb, lt-ltb, le-leb, lt-leb}
use Rattle.std.specs.Prelude.{Option, Some, None}
use Rattle.basics.specs.Limits.{max_component}
use Rattle.labelling.specs.Numbers.{number}
use Rattle.numbers.specs.Answers.{number_answer, number_for}

-- a number up to 65,534 is given
pub number_fits : (x : ℕ) → x ≤ max_component → Some x ≡ number_answer x
unfolding number_answer
number_fits x h = rw (le-leb _ _ h)

-- no number over 65,534 is given
pub number_large : (x : ℕ) → max_component < x → None ≡ number_answer x
unfolding number_answer
number_large x h = rw (lt-leb _ _ h)

-- the number for the place k of n that is at least f
module _ (n k f : ℕ) where
  -- the number is no less than the place
  number_ge : k ≤ number n k f
  unfolding number
  number_ge = go (leb (f % n) k)
    where
      go : (b : Bool) → k ≤ cond b (f - f % n + k) (f - f % n + n + k)
      go true = omega arith
      go false = omega arith

  -- no number is given for a place that the clue does not have
  pub number_none : n ≤ k → None ≡ number_for n k f
  unfolding number_for
  number_none h = rw (le-ltb k n h)

  module _ (h : k < n) where
    -- the least number for the place is what is given, unless it is over 65,534
    pub number_is : {x : ℕ} {r : Option ℕ} → r ≡ number_answer x → x ≡ number n k f → r ≡ number_for n k f
    unfolding number_for
    number_is e d = rw (lt-ltb k n h) (e ∙ ap number_answer d)

    -- for a place over 65,534 no number is left
    pub number_far : max_component < k → None ≡ number_for n k f
    number_far e = number_is (number_large (number n k f) (omega (arith, number_ge))) refl

    -- where the place is not before f in the round of f, the number stands in that round
    pub number_low : f % n ≤ k → f - f % n + k ≡ number n k f
    unfolding number
    number_low e = rw (le-leb _ _ e)

    module _ (e : k < f % n) where
      -- where the place is before f in the round of f, the number stands in the next round
      pub number_high : f - f % n + n + k ≡ number n k f
      unfolding number
      number_high = rw (lt-leb _ _ e)

      -- where a round is over 65,534, no number is left
      pub number_over : max_component < n → None ≡ number_for n k f
      number_over d = number_is (number_large (number n k f) (omega (arith, number_high))) refl
