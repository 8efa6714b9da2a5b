-- `printing::print_matches` meets its contract: a refusal's line for a file, else what is printed for the words of the
-- store.
use borrow.Author.Rules.{rules}
use Rattle.printing.proofs.Rooms.{prefix_size}
use Rattle.printing.proofs.Printed.{prints_told}
use Rattle.printing.proofs.Program.{file_room, words_held, names_table, file_size, names_refused, file_refused, files_printed}
use Rattle.printing.proofs.print_matches.Statement.{statement}
use Rattle.printing.proofs.print_matches.Tie as tie

pub print_matches_spec : {M : Type 1} → statement M
print_matches_spec =
    tie.close
    (tie.spec
    (λ c κs. search rules)
    (λ c. search rules)
    (λ c κs. search rules)
    (λ c. search rules)
    (λ c. prints_told (search (names_refused, rules)))
    (λ c. search rules)
    (λ c κs. search rules)
    (λ c. search rules)
    (λ c κs. search rules)
    (λ c. search rules)
    (λ c. prints_told (search (file_refused, rules)))
    (λ c. search rules)
    (λ c. search rules)
    (λ c κs. search (file_room, rules))
    (λ c κs. search rules)
    (λ c. search (words_held, rules))
    (λ c. search (prefix_size, words_held, rules))
    (λ c. search rules)
    (λ c. search rules)
    (λ c κs. (search (names_table, rules), search (file_size, rules), search rules))
    (λ c. search rules)
    (λ c. prints_told (search (files_printed, rules))))
