-- `host_answers::put_pair` meets its contract: there is no room, room for one number, or room for both.
use borrow.Author.Rules.{rules}
use Rattle.host_answers.proofs.Fits.{pair_none, pair_one, pair_both}
use Rattle.host_answers.proofs.put_pair.Statement.{statement}
use Rattle.host_answers.proofs.put_pair.Tie as tie

pub put_pair_spec : {M : Type 1} → statement M
put_pair_spec =
    tie.close
    (tie.spec
    (λ c. search (pair_none, rules))
    (λ c. search rules)
    (λ c. search rules)
    (λ c. search (pair_one, rules))
    (λ c. search rules)
    (λ c. search rules)
    (λ c. search (pair_both, rules)))
