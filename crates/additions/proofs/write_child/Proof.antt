-- `additions::write_child` meets its contract: the next number is raised, and the record put in behind the subtree.
use borrow.Author.Rules.{rules}
use Rattle.changes.proofs.InUse.{end_used}
use Rattle.additions.proofs.Additions.{written_length, written_room, child_written_lem}
use Rattle.additions.proofs.write_child.Statement.{statement}
use Rattle.additions.proofs.write_child.Tie as tie

pub write_child_spec : {M : Type 1} → statement M
write_child_spec =
    tie.close
    (tie.spec
    (λ c κs. search rules)
    (λ c. search rules)
    (λ c. search rules)
    (λ c. search rules)
    (λ c. search rules)
    (λ c. search rules)
    (λ c κs. search (end_used, written_room, rules))
    (λ c. search (written_length, rules))
    (λ c. search (child_written_lem, rules)))
