-- `moving::insert` meets its contract: the records are moved up, then the new one is put into the gap.
use borrow.Author.Rules.{rules}
use Rattle.moving.proofs.Moves.{insert_is}
use Rattle.moving.proofs.insert.Statement.{statement}
use Rattle.moving.proofs.insert.Tie as tie

pub insert_spec : {M : Type 1} → statement M
insert_spec =
    tie.close
    (tie.spec
    (λ c κs. search rules)
    (λ c κs. search rules)
    (λ c. search rules)
    (λ c. search (insert_is, rules)))
