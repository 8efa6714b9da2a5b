-- `moving::shift_down` meets its contract: the records before the index are moved.
use Prim.Native.Nat.{◌≤◌, ◌-◌}
use mathlib.Core.Path.{◌≡◌}
use borrow.Author.Rules.{rules}
use lib.ListN.{length}
use Rattle.moving.specs.Moves.{shifted_down}
use Rattle.moving.proofs.Moves.{down_none, down_more, down_is}
use Rattle.moving.proofs.shift_down.Statement.{statement}
use Rattle.moving.proofs.shift_down.Tie as tie

abbrev invariant-loop-i : tie.invariant-loop-i
invariant-loop-i words₀ to from count i₀ words i = (from ≤ i) × (i ≤ count) × (length words ≡ length words₀) × (words ≡ shifted_down words₀ to from i)

abbrev decreases-loop-i : tie.decreases-loop-i
decreases-loop-i words₀ to from count i₀ words i = count - i

pub shift_down_spec : {M : Type 1} → statement M
shift_down_spec =
    tie.close
    (tie.spec
    invariant-loop-i
    decreases-loop-i
    (λ c. search (down_none, rules))
    (λ c. search rules)
    (λ c. search rules)
    (λ c κs. search rules)
    (λ c. search rules)
    (λ c. search rules)
    (λ c. search (down_more, rules))
    (λ c. search rules)
    (λ c. search (down_is, rules)))
