-- `host_checks::jiszteruk_check_twig` meets its contract: the verdict is told.
use borrow.Author.Rules.{rules}
use Rattle.host_answers.proofs.Verdicts.{told_check}
use Rattle.host_checks.proofs.jiszteruk_check_twig.Statement.{statement}
use Rattle.host_checks.proofs.jiszteruk_check_twig.Tie as tie

pub jiszteruk_check_twig_spec : {M : Type 1} → statement M
jiszteruk_check_twig_spec =
    tie.close
    (tie.spec
    (λ c κs. search rules)
    (λ c κs. search rules)
    (λ c. search rules)
    (λ c. search (told_check, rules)))
