-- `host_answers::tell` meets its contract: the number told is 0, or the refusal's.
use borrow.Author.Rules.{rules}
use Rattle.host_answers.proofs.Verdicts.{tell_taken, tell_refused}
use Rattle.host_answers.proofs.tell.Statement.{statement}
use Rattle.host_answers.proofs.tell.Tie as tie

pub tell_spec : {M : Type 1} → statement M
tell_spec =
    tie.close
    (tie.spec
    (λ c. search rules)
    (λ c. search rules)
    (λ c κs. search rules)
    (λ c. search rules)
    (λ c. search (tell_taken, rules))
    (λ c κs. search rules)
    (λ c. search rules)
    (λ c. search (tell_refused, rules)))
