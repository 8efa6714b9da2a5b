-- `records::Store::check_size` meets its contract: the four facts of 18 in turn.
use borrow.Author.Rules.{rules}
use Rattle.records.proofs.Sizes.{size_odd, size_none, size_over, size_many, size_good}
use Rattle.records.proofs.Store.check_size.Statement.{statement}
use Rattle.records.proofs.Store.check_size.Tie as tie

pub check_size_spec : {M : Type 1} → statement M
check_size_spec =
    tie.close
    (tie.spec
    (λ c κs. search rules)
    (λ c κs. search rules)
    (λ c. search (size_odd, rules))
    (λ c κs. search rules)
    (λ c. search (size_none, rules))
    (λ c κs. search rules)
    (λ c. search (size_over, rules))
    (λ c κs. search rules)
    (λ c. search (size_many, rules))
    (λ c. search (size_good, rules)))
