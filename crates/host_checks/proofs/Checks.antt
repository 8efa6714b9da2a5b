-- What is told of tables and of stores that are checked.
use Prim.Native.Nat.{ℕ}
use mathlib.Core.Path.{◌≡◌, ap, ◌∙◌}
use mathlib.Core.List.{List}
use Rattle.naming.specs.Names.{Table, table_check}
use Rattle.refusals.specs.Answers.{verdict_of}
use Rattle.refusals.specs.declared.Verdict.{Verdict}
use Rattle.store_checks.specs.Stores.{store_check}
use Rattle.table_bytes.specs.Rows.{table_in}
use Rattle.host_answers.specs.Reports.{Report, report_by, report_of}
use Rattle.host_answers.proofs.Verdicts.{told_check}

module _ (bytes : List ℕ) {t : Table} (is : t ≡ table_in bytes) (answer : List ℕ) {v : Verdict} {x : Report} (told : x ≡ report_by v 0 answer) where
  -- what is told of a table's bytes is what their check answers
  pub table_told : v ≡ verdict_of (table_check t) → x ≡ report_of (table_check (table_in bytes)) 0 answer
  table_told e = told_check (table_check (table_in bytes)) 0 answer (e ∙ ap (λ rows. verdict_of (table_check rows)) is) told

  -- what is told of a store under a table's bytes is what its check answers
  pub store_told : (ws : List ℕ) (count : ℕ) → v ≡ verdict_of (store_check t ws count) → x ≡ report_of (store_check (table_in bytes) ws count) 0 answer
  store_told ws count e = told_check (store_check (table_in bytes) ws count) 0 answer (e ∙ ap (λ rows. verdict_of (store_check rows ws count)) is) told
