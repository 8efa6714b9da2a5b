-- `host_tables::jiszteruk_read_names` meets its contract: a slice that is a table's is written, another is refused.
use borrow.Author.Rules.{rules}
use Rattle.host_tables.proofs.Tables.{read_no_table, no_table_read, read_told, read_written}
use Rattle.host_tables.proofs.jiszteruk_read_names.Statement.{statement}
use Rattle.host_tables.proofs.jiszteruk_read_names.Tie as tie

pub jiszteruk_read_names_spec : {M : Type 1} → statement M
jiszteruk_read_names_spec =
    tie.close
    (tie.spec
    (λ c κs. search rules)
    (λ c κs. search rules)
    (λ c. search rules)
    (λ c. search (read_no_table, no_table_read, rules))
    (λ c κs. search rules)
    (λ c κs. search rules)
    (λ c κs. search rules)
    (λ c κs. search rules)
    (λ c. search rules)
    (λ c. search rules)
    (λ c. search (read_told, read_written, rules)))
