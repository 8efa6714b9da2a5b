-- What a host program is told of a table that is read or written.
use Rattle.std.specs.Prelude.{ℕ, ◌*◌, Bool, cond, List, length, eqb}
use Rattle.basics.specs.Basics.{joined}
use Rattle.basics.specs.Limits.{table_size}
use Rattle.basics.specs.Refusals.{refuse, bad_table}
use Rattle.naming.specs.Names.{read_names}
use Rattle.naming.specs.Examples.{bench_table}
use Rattle.host_answers.specs.Reports.{Report, report_of}

-- the test of a lent slice: whether it has room for a table, and for nothing else
abbrev pub is_table : List ℕ → Bool
is_table table = eqb (length table) (table_size * table_size)

-- reading a file into a slice: 22 where it is no table's, else what the reader answers
unfoldable pub read_report : List ℕ → List ℕ → List ℕ → Report
read_report file table answer = cond (is_table table) (report_of (read_names file).refusal 0 answer) (report_of (refuse bad_table 0) 0 answer)

-- what a reading leaves: the table read, its rows one after the other; a slice that is no table's is left alone
unfoldable pub table_read : List ℕ → List ℕ → List ℕ
table_read file table = cond (is_table table) (joined (read_names file).table) table

-- the number for the bench's own table: 22 where the slice is no table's
unfoldable pub bench_number : List ℕ → ℕ
bench_number table = cond (is_table table) 0 bad_table

-- what the bench's own table leaves: its rows one after the other; a slice that is no table's is left alone
unfoldable pub bench_bytes : List ℕ → List ℕ
bench_bytes table = cond (is_table table) (joined bench_table) table
