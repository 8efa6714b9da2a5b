-- `moving::put_record` meets its contract: the record is written over the one at its place, as `words::overwrite` says.
use borrow.Author.Rules.{rules}
use Rattle.moving.proofs.Moves.{put_over}
use Rattle.moving.proofs.put_record.Statement.{statement}
use Rattle.moving.proofs.put_record.Tie as tie

pub put_record_spec : {M : Type 1} → statement M
put_record_spec =
    tie.close
    (tie.spec
    (λ c. search rules)
    (λ c. search rules)
    (λ c. search rules)
    (λ c. search rules)
    (λ c. search rules)
    (λ c κs. search rules)
    (λ c. search rules)
    (λ c. search (put_over, rules)))
