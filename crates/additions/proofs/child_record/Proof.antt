-- `additions::child_record` meets its contract: a label is copied over the label of the root's record.
use borrow.Author.Rules.{rules}
use Rattle.additions.proofs.Children.{record_child}
use Rattle.additions.proofs.child_record.Statement.{statement}
use Rattle.additions.proofs.child_record.Tie as tie

pub child_record_spec : {M : Type 1} → statement M
child_record_spec =
    tie.close
    (tie.spec
    (λ c κs. search rules)
    (λ c. search rules)
    (λ c κs. search rules)
    (λ c. search (record_child, rules)))
