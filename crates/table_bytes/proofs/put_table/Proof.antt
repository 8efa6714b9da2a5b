-- `table_bytes::put_table` meets its contract: the rows before the index are written, by the laws of `Bytes`.
use borrow.Author.Rules.{rules}
use mathlib.Core.Path.{◌≡◌}
use Prim.Native.Nat.{◌-◌, ◌≤◌}
use lib.ListN.{length}
use Rattle.table_bytes.proofs.Bytes.{Put, rows_none, rows_put, rows_done}
use Rattle.table_bytes.proofs.put_table.Statement.{statement}
use Rattle.table_bytes.proofs.put_table.Tie as tie

abbrev invariant-loop-p : tie.invariant-loop-p
invariant-loop-p table bytes₀ rows p₀ bytes p = (p ≤ length rows) × (length bytes ≡ length bytes₀) × Put rows bytes₀ p bytes

abbrev decreases-loop-p : tie.decreases-loop-p
decreases-loop-p table bytes₀ rows p₀ bytes p = length rows - p

pub put_table_spec : {M : Type 1} → statement M
put_table_spec =
    tie.close
    (tie.spec
    invariant-loop-p
    decreases-loop-p
    (λ c κs. search rules)
    (λ c. search (rows_none, rules))
    (λ c. search rules)
    (λ c. search rules)
    (λ c κs. search rules)
    (λ c. search rules)
    (λ c κs. search rules)
    (λ c. search rules)
    (λ c. search rules)
    (λ c. search (rows_put, rules))
    (λ c. search rules)
    (λ c. search (rows_done, rules)))
