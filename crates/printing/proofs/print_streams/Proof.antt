-- `printing::print_streams` meets its contract: a refusal's line, or the matches read back from the words written.
use borrow.Author.Rules.{rules}
use Rattle.printing.proofs.Lists.{list_refused, list_some, list_held, list_deep, list_room, list_printed_lem}
use Rattle.printing.proofs.print_streams.Statement.{statement}
use Rattle.printing.proofs.print_streams.Tie as tie

pub print_streams_spec : {M : Type 1} → statement M
print_streams_spec =
    tie.close
    (tie.spec
    (λ c. search rules)
    (λ c κs. search rules)
    (λ c. search rules)
    (λ c κs. search rules)
    (λ c. search rules)
    (λ c. search (list_refused, rules))
    (λ c. search rules)
    (λ c. search rules)
    (λ c κs. search rules)
    (λ c κs. (search (list_some, rules), search (list_held, rules), search (list_deep, rules), search (list_room, rules)))
    (λ c. search rules)
    (λ c. search (list_printed_lem, rules)))
