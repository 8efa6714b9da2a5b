-- `additions::child_label` meets its contract: the parent's words are copied, and two of them written.
use borrow.Author.Rules.{rules}
use Rattle.additions.proofs.Children.{label_sixteen, label_child}
use Rattle.additions.proofs.child_label.Statement.{statement}
use Rattle.additions.proofs.child_label.Tie as tie

pub child_label_spec : {M : Type 1} → statement M
child_label_spec =
    tie.close
    (tie.spec
    (λ c. search rules)
    (λ c κs. search (label_sixteen, rules))
    (λ c. search (label_sixteen, rules))
    (λ c. search rules)
    (λ c. search rules)
    (λ c. search rules)
    (λ c. search rules)
    (λ c. search rules)
    (λ c. search (label_child, rules)))
