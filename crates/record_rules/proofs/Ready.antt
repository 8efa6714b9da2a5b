-- A record that can be tested: the two ways through the code that tests it.
use Prim.Native.Nat.{ℕ, suc, ◌+◌, ◌-◌, ◌*◌, ◌≤◌}
use mathlib.Core.Path.{◌≡◌, refl, sym, ap, ◌∙◌}
use mathlib.Core.List.{List}
use native.Mathlib.Omega.{arith}
use lib.ListN.{length, get_or}
use borrow.Author.Tests.{eqb-true}
use Rattle.std.specs.Prelude.{Result, ⊤}
use Rattle.basics.specs.Limits.{record_size, max_depth}
use Rattle.naming.specs.Names.{Clues}
use Rattle.storage.specs.Store.{read_element}
use Rattle.records.specs.Records.{record_at}
use Rattle.record_rules.specs.Rules.{Ready, broken_root, broken_below, broken_at}
use Rattle.record_rules.specs.Answers.{check_of}
use Rattle.record_rules.specs.declared.Rule.{Rule}
use Rattle.record_rules.proofs.Depths.{fitting_depth, depth_root}

module _ (ws : List ℕ) (r parent : ℕ) (ready : Ready ws r parent) where
  module _ (e : r ≡ 0) where
    -- record 0 stands at the front of the slice
    pub root_inside : record_size ≤ length ws
    root_inside = omega (arith, ready.room)

    -- record 0 has depth 0
    pub root_flat : get_or ws 0 0 ≡ 0
    root_flat =
        let fits = ready.laid.0 in
        let at : r * record_size ≡ 0 = omega arith in
        ap (λ i. get_or ws i 0) (sym at) ∙ eqb-true _ 0 (depth_root r _ (fitting_depth r _ fits) e ∙ fits)

  module _ (n : r ≡ 0 → ⊥) where
    -- a later record stands in the slice with the previous one
    pub child_inside : (r - 1) * record_size + 40 ≤ length ws
    child_inside = omega (arith, ready.room)

    -- the record that a later one would stand below is in the slice
    pub parent_inside : parent * record_size + record_size ≤ length ws
    parent_inside = omega (arith, ready.room, ready.earlier)

    -- the record before a later one has a depth of at most 15
    pub previous_shallow : get_or ws ((r - 1) * record_size) 0 ≤ max_depth
    previous_shallow = ready.shallow (r - 1) (omega arith)

    -- a later record has a depth of at most 15
    pub child_shallow : get_or ws ((r - 1 + 1) * record_size) 0 ≤ max_depth
    child_shallow = let at : r - 1 + 1 ≡ r = omega arith in rw at (fitting_depth r _ ready.laid.0)

module _ (cl : Clues) (ws : List ℕ) (r parent : ℕ) {k : Result ⊤ Rule} where
  -- the rules of record 0 are those that the pass tests on it
  pub at_root : r ≡ 0 → k ≡ check_of (broken_root cl (read_element (record_at 0 ws))) → k ≡ check_of (broken_at cl ws r parent)
  unfolding broken_at
  at_root e f = f ∙ rw e

  -- the rules of a later record are those that the pass tests on it, behind the previous one
  pub at_child : (r ≡ 0 → ⊥) → k ≡ check_of (broken_below cl (read_element (record_at (r - 1) ws)) (read_element (record_at parent ws)) (read_element (record_at (r - 1 + 1) ws))) →
      k ≡ check_of (broken_at cl ws r parent)
  unfolding broken_at
  at_child n f =
      let at : r - 1 + 1 ≡ suc (r - 1) = omega arith in
      let whole : suc (r - 1) ≡ r = omega arith in
      f ∙ rw at refl ∙ ap (λ r. check_of (broken_at cl ws r parent)) whole
