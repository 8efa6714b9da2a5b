-- `host_checks::jiszteruk_check_table` meets its contract: the verdict is told.
use borrow.Author.Rules.{rules}
use Rattle.host_checks.proofs.Checks.{table_told}
use Rattle.host_checks.proofs.jiszteruk_check_table.Statement.{statement}
use Rattle.host_checks.proofs.jiszteruk_check_table.Tie as tie

pub jiszteruk_check_table_spec : {M : Type 1} → statement M
jiszteruk_check_table_spec =
    tie.close
    (tie.spec
    (λ c κs. search rules)
    (λ c κs. search rules)
    (λ c κs. search rules)
    (λ c. search rules)
    (λ c. search (table_told, rules)))
