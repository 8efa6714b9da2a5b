-- `host_lists::jiszteruk_match_twig` meets its contract: the verdict and the count are told.
use borrow.Author.Rules.{rules}
use Rattle.host_lists.proofs.Lists.{match_told, match_written}
use Rattle.host_lists.proofs.jiszteruk_match_twig.Statement.{statement}
use Rattle.host_lists.proofs.jiszteruk_match_twig.Tie as tie

pub jiszteruk_match_twig_spec : {M : Type 1} → statement M
jiszteruk_match_twig_spec =
    tie.close
    (tie.spec
    (λ c κs. search rules)
    (λ c κs. search rules)
    (λ c κs. search rules)
    (λ c. search rules)
    (λ c. search rules)
    (λ c. search (match_told, match_written, rules)))
