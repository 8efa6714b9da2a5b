-- What is told of a table that is read or written, and what is left in it.
use Prim.Native.Nat.{ℕ, ◌*◌}
use mathlib.Core.Path.{◌≡◌, sym, ap, ◌∙◌}
use mathlib.Core.Bool.{cond}
use mathlib.Core.List.{List}
use lib.ListN.{length}
use Rattle.basics.specs.Basics.{joined}
use Rattle.basics.specs.Limits.{table_size}
use Rattle.basics.specs.Refusals as spec
use Rattle.naming.specs.Names.{Table, file_check, read_names}
use Rattle.naming.specs.Examples.{bench_table}
use Rattle.basics.proofs.Tests.{is_true, is_false, eqb_alike}
use Rattle.naming.proofs.NameFiles.{read_refusal}
use Rattle.refusals.specs.Answers.{verdict_of}
use Rattle.refusals.specs.declared.Verdict.{Verdict}
use Rattle.host_answers.specs.Reports.{Report, report_by, report_of}
use Rattle.host_answers.proofs.Verdicts.{told_check}
use Rattle.host_tables.specs.Calls.{is_table, read_report, table_read, bench_number, bench_bytes}

-- a slice that is no table's
module _ (table : List ℕ) (size : length table ≡ table_size * table_size → ⊥) where
  -- a choice by whether the slice is a table's is the second, where it is not
  no_table : {A : Type 0} (a b : A) → cond (is_table table) a b ≡ b
  no_table a b = ap (λ t. cond t a b) (is_false (is_table table) (λ t. size ((eqb_alike (length table) (table_size * table_size)).0 t)))

  -- a file read into a slice that is no table's is refused by 22
  pub read_no_table : (file answer : List ℕ) {v : Verdict} {x : Report} → v ≡ verdict_of (spec.refuse spec.bad_table 0) → x ≡ report_by v 0 answer → x ≡ read_report file table answer
  unfolding read_report
  read_no_table file answer e told =
      told_check (spec.refuse spec.bad_table 0) 0 answer e told ∙ sym (no_table (report_of (read_names file).refusal 0 answer) (report_of (spec.refuse spec.bad_table 0) 0 answer))

  -- a slice that is no table's is left alone by a reading
  pub no_table_read : (file : List ℕ) → table ≡ table_read file table
  unfolding table_read
  no_table_read file = sym (no_table (joined (read_names file).table) table)

  -- the bench's own table is refused by 22 for a slice that is no table's
  pub bench_no_number : 22 ≡ bench_number table
  unfolding bench_number
  bench_no_number = sym (no_table 0 22)

  -- a slice that is no table's is left alone by the bench's own table
  pub bench_no_bytes : table ≡ bench_bytes table
  unfolding bench_bytes
  bench_no_bytes = sym (no_table (joined bench_table) table)

-- a slice that is a table's
module _ (table : List ℕ) (size : length table ≡ table_size * table_size) where
  -- a choice by whether the slice is a table's is the first, where it is
  a_table : {A : Type 0} (a b : A) → cond (is_table table) a b ≡ a
  a_table a b = ap (λ t. cond t a b) (is_true (is_table table) ((eqb_alike (length table) (table_size * table_size)).1 size))

  -- of a file read into a slice that is a table's the answer of its check is told
  pub read_told : (file answer : List ℕ) {v : Verdict} {x : Report} → v ≡ verdict_of (file_check file) → x ≡ report_by v 0 answer → x ≡ read_report file table answer
  unfolding read_report
  read_told file answer is told =
      told_check (read_names file).refusal 0 answer (is ∙ ap verdict_of (sym (read_refusal file))) told
      ∙ sym (a_table (report_of (read_names file).refusal 0 answer) (report_of (spec.refuse spec.bad_table 0) 0 answer))

  -- a slice that is a table's gets the table read
  pub read_written : (file : List ℕ) {rows : Table} {left : List ℕ} → rows ≡ (read_names file).table → left ≡ joined rows → left ≡ table_read file table
  unfolding table_read
  read_written file is e = e ∙ ap joined is ∙ sym (a_table (joined (read_names file).table) table)

  -- the bench's own table is written to a slice that is a table's with the number 0
  pub bench_number_lem : 0 ≡ bench_number table
  unfolding bench_number
  bench_number_lem = sym (a_table 0 22)

  -- a slice that is a table's gets the bench's own table
  pub bench_written : {rows : Table} {left : List ℕ} → rows ≡ bench_table → left ≡ joined rows → left ≡ bench_bytes table
  unfolding bench_bytes
  bench_written e f = f ∙ ap joined e ∙ sym (a_table (joined bench_table) table)
