-- `store_checks::store_verdict` meets its contract: the table, the sizes and the records are checked in turn.
use borrow.Author.Rules.{rules}
use Rattle.store_checks.proofs.Checks.{size_room, store_table, store_size_lem, store_records}
use Rattle.store_checks.proofs.store_verdict.Statement.{statement}
use Rattle.store_checks.proofs.store_verdict.Tie as tie

pub store_verdict_spec : {M : Type 1} → statement M
store_verdict_spec =
    tie.close
    (tie.spec
    (λ c κs. search rules)
    (λ c. search rules)
    (λ c. search (store_table, rules))
    (λ c. search rules)
    (λ c κs. search rules)
    (λ c. search rules)
    (λ c. search (store_size_lem, rules))
    (λ c. search rules)
    (λ c κs. search (size_room, rules))
    (λ c. search (store_records, rules)))
