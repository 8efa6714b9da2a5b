-- `printing::print_store` meets its contract: the refusal's line of records or twig, else what `print_twig` prints.
use borrow.Author.Rules.{rules}
use Rattle.refusals.proofs.Verdicts.{passed_none}
use Rattle.printing.proofs.Stores.{records_refused, store_accepted, bytes_refused, store_printed}
use Rattle.printing.proofs.print_store.Statement.{statement}
use Rattle.printing.proofs.print_store.Tie as tie

pub print_store_spec : {M : Type 1} → statement M
print_store_spec =
    tie.close
    (tie.spec
    (λ c κs. search rules)
    (λ c. search rules)
    (λ c κs. search rules)
    (λ c. search rules)
    (λ c. search (records_refused, rules))
    (λ c. search rules)
    (λ c κs. search rules)
    (λ c. search rules)
    (λ c κs. search rules)
    (λ c. search rules)
    (λ c. search (bytes_refused, rules))
    (λ c. search rules)
    (λ c κs. (search (store_accepted, rules), search (passed_none, rules), search rules))
    (λ c. search rules)
    (λ c. search (store_printed, rules)))
