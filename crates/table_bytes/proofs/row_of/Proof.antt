-- `table_bytes::row_of` meets its contract: the bytes before the loop's index are copied, by the laws of `Rows`.
use Prim.Native.Nat.{◌≤◌, ◌-◌}
use mathlib.Core.Path.{◌≡◌}
use borrow.Author.Rules.{rules}
use lib.ListN.{length}
use Rattle.basics.specs.Limits.{table_size, filler}
use Rattle.table_bytes.proofs.Rows.{Copied, row_more, row_all}
use Rattle.table_bytes.proofs.row_of.Statement.{statement}
use Rattle.table_bytes.proofs.row_of.Tie as tie

abbrev invariant-loop-k : tie.invariant-loop-k
invariant-loop-k bytes row₀ k₀ row k = (k ≤ length bytes) × (length row ≡ table_size) × Copied bytes filler k row

abbrev decreases-loop-k : tie.decreases-loop-k
decreases-loop-k bytes row₀ k₀ row k = length bytes - k

pub row_of_spec : {M : Type 1} → statement M
row_of_spec =
    tie.close
    (tie.spec
    invariant-loop-k
    decreases-loop-k
    (λ c. search rules)
    (λ c. search rules)
    (λ c. search rules)
    (λ c. search rules)
    (λ c. search rules)
    (λ c. search (row_more, rules))
    (λ c. search (row_all, rules)))
