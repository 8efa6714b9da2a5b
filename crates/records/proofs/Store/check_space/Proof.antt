-- `records::Store::check_space` meets its contract: the two facts of 13 in turn.
use borrow.Author.Rules.{rules}
use Rattle.records.proofs.Sizes.{space_none, space_full, space_free}
use Rattle.records.proofs.Store.check_space.Statement.{statement}
use Rattle.records.proofs.Store.check_space.Tie as tie

pub check_space_spec : {M : Type 1} → statement M
check_space_spec =
    tie.close
    (tie.spec
    (λ c κs. search rules)
    (λ c. search (space_none, rules))
    (λ c κs. search rules)
    (λ c. search (space_full, rules))
    (λ c. search (space_free, rules)))
