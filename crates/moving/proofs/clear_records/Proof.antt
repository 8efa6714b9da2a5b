-- `moving::clear_records` meets its contract: the words before the index are zeros.
use Prim.Native.Nat.{◌≤◌, ◌-◌, ◌*◌}
use mathlib.Core.Path.{◌≡◌}
use borrow.Author.Rules.{rules}
use lib.ListN.{length, replicate}
use lib.Seq.{paste, paste-zero}
use Rattle.basics.specs.Limits.{record_size}
use Rattle.moving.proofs.Moves.{clear_more, clear_is}
use Rattle.moving.proofs.clear_records.Statement.{statement}
use Rattle.moving.proofs.clear_records.Tie as tie

abbrev invariant-loop-k : tie.invariant-loop-k
invariant-loop-k words₀ from count n k₀ words k = (k ≤ n) × (length words ≡ length words₀) × (words ≡ paste words₀ (record_size * from) (replicate n 0) k)

abbrev decreases-loop-k : tie.decreases-loop-k
decreases-loop-k words₀ from count n k₀ words k = n - k

pub clear_records_spec : {M : Type 1} → statement M
clear_records_spec =
    tie.close
    (tie.spec
    invariant-loop-k
    decreases-loop-k
    (λ c. search rules)
    (λ c. search rules)
    (λ c. search (paste-zero, rules))
    (λ c. search rules)
    (λ c. search rules)
    (λ c. search rules)
    (λ c. search rules)
    (λ c. search rules)
    (λ c. search rules)
    (λ c. search (clear_more, rules))
    (λ c. search rules)
    (λ c. search (clear_is, rules)))
