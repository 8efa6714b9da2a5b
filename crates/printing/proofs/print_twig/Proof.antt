-- `printing::print_twig` meets its contract: a refusal's line where the streams have no room, else what is printed for
-- the matches over them.
use borrow.Author.Rules.{rules}
use Rattle.printing.proofs.Rooms.{prefix_size}
use Rattle.printing.proofs.Twigs.{root_inside, root_byte, twig_refused, words_held, words_fit_lem, counts_held, twig_streamed, twig_printed}
use Rattle.printing.proofs.print_twig.Statement.{statement}
use Rattle.printing.proofs.print_twig.Tie as tie

pub print_twig_spec : {M : Type 1} → statement M
print_twig_spec =
    tie.close
    (tie.spec
    (λ c. search rules)
    (λ c. search rules)
    (λ c κs. search rules)
    (λ c. search rules)
    (λ c κs. search rules)
    (λ c. search rules)
    (λ c. search (twig_refused, rules))
    (λ c. search rules)
    (λ c. search (root_inside, rules))
    (λ c. search (root_byte, rules))
    (λ c κs. search rules)
    (λ c. search (counts_held, rules))
    (λ c. search (prefix_size, counts_held, rules))
    (λ c. search words_fit_lem)
    (λ c. search (words_held, rules))
    (λ c. search (prefix_size, words_held, rules))
    (λ c κs. (search (twig_streamed, rules), search rules))
    (λ c. search rules)
    (λ c. search (twig_printed, rules)))
