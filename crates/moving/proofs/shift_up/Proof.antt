-- `moving::shift_up` meets its contract: the records from the index on are moved.
use Prim.Native.Nat.{◌≤◌}
use mathlib.Core.Path.{◌≡◌}
use borrow.Author.Rules.{rules}
use lib.ListN.{length}
use Rattle.moving.specs.Moves.{shifted_up}
use Rattle.moving.proofs.Moves.{up_none, up_more, up_is}
use Rattle.moving.proofs.shift_up.Statement.{statement}
use Rattle.moving.proofs.shift_up.Tie as tie

abbrev invariant-loop-i : tie.invariant-loop-i
invariant-loop-i words₀ at count i₀ words i = (at ≤ i) × (i ≤ count) × (length words ≡ length words₀) × (words ≡ shifted_up words₀ i count)

abbrev decreases-loop-i : tie.decreases-loop-i
decreases-loop-i words₀ at count i₀ words i = i

pub shift_up_spec : {M : Type 1} → statement M
shift_up_spec =
    tie.close
    (tie.spec
    invariant-loop-i
    decreases-loop-i
    (λ c. search (up_none, rules))
    (λ c. search rules)
    (λ c. search rules)
    (λ c κs. search rules)
    (λ c. search rules)
    (λ c. search (up_more, rules))
    (λ c. search rules)
    (λ c. search (up_is, rules)))
