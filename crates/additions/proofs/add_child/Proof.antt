-- `additions::add_child` meets its contract: 13, else the child's label and record.
use borrow.Author.Rules.{rules}
use Rattle.changes.proofs.InUse.{place_used}
use Rattle.additions.proofs.Additions.{depth_high, add_refused, add_room, add_done}
use Rattle.additions.proofs.add_child.Statement.{statement}
use Rattle.additions.proofs.add_child.Tie as tie

pub add_child_spec : {M : Type 1} → statement M
add_child_spec =
    tie.close
    (tie.spec
    (λ c κs. search rules)
    (λ c. search rules)
    (λ c. search rules)
    (λ c κs. search rules)
    (λ c. search (add_refused, rules))
    (λ c κs. search (depth_high, rules))
    (λ c κs. search rules)
    (λ c κs. search rules)
    (λ c κs. search rules)
    (λ c κs. search rules)
    (λ c κs. search (place_used, add_room, rules))
    (λ c. search rules)
    (λ c. search rules)
    (λ c. search (add_done, rules)))
