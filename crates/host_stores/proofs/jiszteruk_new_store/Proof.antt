-- `host_stores::jiszteruk_new_store` meets its contract: the verdict and the count are told.
use borrow.Author.Rules.{rules}
use Rattle.host_stores.proofs.Stores.{change_told, change_written}
use Rattle.host_stores.proofs.jiszteruk_new_store.Statement.{statement}
use Rattle.host_stores.proofs.jiszteruk_new_store.Tie as tie

pub jiszteruk_new_store_spec : {M : Type 1} → statement M
jiszteruk_new_store_spec =
    tie.close
    (tie.spec
    (λ c κs. search rules)
    (λ c κs. search rules)
    (λ c. search rules)
    (λ c. search rules)
    (λ c. search (change_told, change_written, rules)))
