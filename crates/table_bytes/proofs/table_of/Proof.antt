-- `table_bytes::table_of` meets its contract: the rows before the loop's index are copied, by the laws of `Rows`.
use Prim.Native.Nat.{◌≤◌, ◌-◌}
use mathlib.Core.Path.{◌≡◌}
use borrow.Author.Rules.{rules}
use lib.ListN.{length, replicate}
use Rattle.basics.specs.Limits.{table_size, filler}
use Rattle.table_bytes.specs.Rows.{rows_in}
use Rattle.table_bytes.proofs.Rows.{Copied, row_long, rows_more, rows_all}
use Rattle.table_bytes.proofs.table_of.Statement.{statement}
use Rattle.table_bytes.proofs.table_of.Tie as tie

abbrev invariant-loop-p : tie.invariant-loop-p
invariant-loop-p bytes table₀ p₀ table p = (p ≤ table_size) × (length table ≡ table_size) × Copied (rows_in bytes) (replicate table_size filler) p table

abbrev decreases-loop-p : tie.decreases-loop-p
decreases-loop-p bytes table₀ p₀ table p = table_size - p

pub table_of_spec : {M : Type 1} → statement M
table_of_spec =
    tie.close
    (tie.spec
    invariant-loop-p
    decreases-loop-p
    (λ c. search rules)
    (λ c. search rules)
    (λ c. search rules)
    (λ c. search rules)
    (λ c. search rules)
    (λ c. search rules)
    (λ c κs. search (row_long, rules))
    (λ c. search rules)
    (λ c. search rules)
    (λ c. search rules)
    (λ c. search rules)
    (λ c. search (rows_more, rules))
    (λ c. search (rows_all, rules)))
