-- `host_stores::jiszteruk_enter` meets its contract: the verdict, the count and the label are told.
use borrow.Author.Rules.{rules}
use Rattle.host_stores.proofs.Stores.{enter_told, enter_written, enter_labelled}
use Rattle.host_stores.proofs.jiszteruk_enter.Statement.{statement}
use Rattle.host_stores.proofs.jiszteruk_enter.Tie as tie

-- what is told, the store and the label are those of the entry
entry_answered : tie.Need-returns
entry_answered c = (search (enter_told, rules), (search (enter_written, rules), search (enter_labelled, rules)))

pub jiszteruk_enter_spec : {M : Type 1} → statement M
jiszteruk_enter_spec =
    tie.close
    (tie.spec
    (λ c κs. search rules)
    (λ c κs. search rules)
    (λ c. search rules)
    (λ c κs. search rules)
    (λ c κs. search rules)
    (λ c. search rules)
    (λ c. search rules)
    (λ c. search rules)
    entry_answered)
