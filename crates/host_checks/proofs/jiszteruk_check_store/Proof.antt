-- `host_checks::jiszteruk_check_store` meets its contract: the verdict is told.
use borrow.Author.Rules.{rules}
use Rattle.host_checks.proofs.Checks.{store_told}
use Rattle.host_checks.proofs.jiszteruk_check_store.Statement.{statement}
use Rattle.host_checks.proofs.jiszteruk_check_store.Tie as tie

pub jiszteruk_check_store_spec : {M : Type 1} → statement M
jiszteruk_check_store_spec =
    tie.close
    (tie.spec
    (λ c κs. search rules)
    (λ c κs. search rules)
    (λ c κs. search rules)
    (λ c. search rules)
    (λ c. search (store_told, rules)))
