-- The depth of a record: which depths fit its number.
use Prim.Native.Nat.{ℕ, ◌<◌, ◌≤◌}
use mathlib.Core.Path.{◌≡◌}
use mathlib.Core.Bool.{true, false}
use lib.Dec.{eqb, leb, ltb, leb→le}
use borrow.Author.Tests.{eq-eqb, ne_eqb, le-leb, lt-leb}
use Rattle.basics.specs.Limits.{max_depth}
use Rattle.basics.proofs.Tests.{and_iff}
use Rattle.labels.proofs.Steps.{passed}
use Rattle.record_rules.specs.Rules.{depth_fits}

-- a depth, by the number of its record
module _ (r depth : ℕ) where
  -- a depth over 15 fits no record
  pub depth_over : max_depth < depth → false ≡ depth_fits r depth
  unfolding depth_fits
  depth_over h = rw (lt-leb depth max_depth h)

  module _ (h : depth ≤ max_depth) where
    -- record 0 has a depth that fits exactly if it is 0
    pub depth_root : r ≡ 0 → eqb depth 0 ≡ depth_fits r depth
    unfolding depth_fits
    depth_root e = rw (le-leb depth max_depth h, eq-eqb r 0 e)

    -- a later record has a depth up to 15 that fits exactly if it is not 0
    pub depth_below : (r ≡ 0 → ⊥) → ltb 0 depth ≡ depth_fits r depth
    unfolding depth_fits
    depth_below e = rw (le-leb depth max_depth h, ne_eqb r 0 e)

-- a depth that fits is at most 15
pub fitting_depth : (r depth : ℕ) → depth_fits r depth ≡ true → depth ≤ max_depth
unfolding depth_fits
fitting_depth r depth e = leb→le depth max_depth ((and_iff (leb depth max_depth) _).0 (passed e)).0
