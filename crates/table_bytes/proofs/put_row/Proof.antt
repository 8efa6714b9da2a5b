-- `table_bytes::put_row` meets its contract: the bytes before the index are written, by the laws of `Bytes`.
use borrow.Author.Rules.{rules}
use mathlib.Core.Path.{◌≡◌}
use Prim.Native.Nat.{◌-◌, ◌≤◌}
use lib.ListN.{length}
use lib.Seq.{paste}
use Rattle.table_bytes.proofs.Bytes.{row_none, row_byte, row_bytes}
use Rattle.table_bytes.proofs.put_row.Statement.{statement}
use Rattle.table_bytes.proofs.put_row.Tie as tie

abbrev invariant-loop-k : tie.invariant-loop-k
invariant-loop-k row bytes₀ at k₀ bytes k = (k ≤ length row) × (length bytes ≡ length bytes₀) × (bytes ≡ paste bytes₀ at row k)

abbrev decreases-loop-k : tie.decreases-loop-k
decreases-loop-k row bytes₀ at k₀ bytes k = length row - k

pub put_row_spec : {M : Type 1} → statement M
put_row_spec =
    tie.close
    (tie.spec
    invariant-loop-k
    decreases-loop-k
    (λ c. search (row_none, rules))
    (λ c. search rules)
    (λ c. search rules)
    (λ c. search rules)
    (λ c. search rules)
    (λ c. search rules)
    (λ c. search (row_byte, rules))
    (λ c. search rules)
    (λ c. search (row_bytes, rules)))
