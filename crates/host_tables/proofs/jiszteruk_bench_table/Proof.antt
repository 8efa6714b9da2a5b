-- `host_tables::jiszteruk_bench_table` meets its contract: a slice that is a table's is written, another is refused.
use borrow.Author.Rules.{rules}
use Rattle.host_tables.proofs.Tables.{bench_no_number, bench_no_bytes, bench_number_lem, bench_written}
use Rattle.host_tables.proofs.jiszteruk_bench_table.Statement.{statement}
use Rattle.host_tables.proofs.jiszteruk_bench_table.Tie as tie

pub jiszteruk_bench_table_spec : {M : Type 1} → statement M
jiszteruk_bench_table_spec =
    tie.close
    (tie.spec
    (λ c. search (bench_no_number, bench_no_bytes, rules))
    (λ c κs. search rules)
    (λ c κs. search rules)
    (λ c. search rules)
    (λ c. search (bench_number_lem, bench_written, rules)))
