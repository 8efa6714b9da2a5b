-- `host_stores::jiszteruk_delete` meets its contract: the verdict and the count are told.
use borrow.Author.Rules.{rules}
use Rattle.host_stores.proofs.Stores.{delete_told, delete_written}
use Rattle.host_stores.proofs.jiszteruk_delete.Statement.{statement}
use Rattle.host_stores.proofs.jiszteruk_delete.Tie as tie

pub jiszteruk_delete_spec : {M : Type 1} → statement M
jiszteruk_delete_spec =
    tie.close
    (tie.spec
    (λ c κs. search rules)
    (λ c κs. search rules)
    (λ c κs. search rules)
    (λ c. search rules)
    (λ c. search rules)
    (λ c. search (delete_told, delete_written, rules)))
