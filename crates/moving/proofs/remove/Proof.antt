-- `moving::remove` meets its contract: the later records are moved down, then the freed ones are cleared.
use borrow.Author.Rules.{rules}
use Rattle.moving.proofs.Moves.{remove_is}
use Rattle.moving.proofs.remove.Statement.{statement}
use Rattle.moving.proofs.remove.Tie as tie

pub remove_spec : {M : Type 1} → statement M
remove_spec =
    tie.close
    (tie.spec
    (λ c κs. search rules)
    (λ c. search rules)
    (λ c. search rules)
    (λ c κs. search rules)
    (λ c. search rules)
    (λ c. search (remove_is, rules)))
