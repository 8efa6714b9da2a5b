-- What a passed or a failed check of a label tells, and how many words and components a label has.
use Prim.Native.Nat.{ℕ, ◌<◌, ◌≤◌}
use mathlib.Core.Path.{◌≡◌, sym, subst, ◌∙◌}
use mathlib.Core.List.{List}
use mathlib.Core.Bool.{Bool, true, false, not}
use native.Mathlib.Omega.{arith}
use lib.ListN.{length, get_or, take, drop}
use lib.Dec.{T}
use borrow.Author.Tests.{not-true, not-false}
use Rattle.basics.specs.Limits.{max_depth}
use Rattle.labelling.specs.Labels.{label_of, is_label}
use Rattle.labelling.proofs.LabelWords.{IsLabel, is_label_iff, label_of_good}

-- a test that is true passes
pub passed : {b : Bool} → b ≡ true → T b
passed e = subst T (sym e) tt

-- words that are a label
module _ (ws : List ℕ) (good : is_label ws ≡ true) where
  -- a label has passed the tests
  label_facts : IsLabel ws
  label_facts = (is_label_iff ws).0 (passed good)

  -- a label has a first word
  pub label_first : 0 < length ws
  label_first = omega (arith, label_facts.sixteen)

  -- a label has as many words after the first as its depth says
  pub label_within : get_or ws 0 0 < length ws
  label_within = omega (arith, label_facts.sixteen, label_facts.depth)

  -- as many words after the first as the depth says are at most fifteen components
  pub label_short : length (take (get_or ws 0 0) (drop 1 ws)) ≤ max_depth
  unfolding label_of
  label_short = (label_of_good ws (passed good)).shallow

-- words that `is_label` let pass are a label
pub known_label : (a : List ℕ) {x : Bool} → x ≡ is_label a → not x ≡ false → is_label a ≡ true
known_label a {x} is e = sym is ∙ not-false x e

-- words that `is_label` did not let pass are no label
pub unknown_label : (a : List ℕ) {x : Bool} → x ≡ is_label a → not x ≡ true → is_label a ≡ false
unknown_label a {x} is e = sym is ∙ not-true x e
