-- `twigs::node_at` meets its contract: a node is read where its bytes stand.
use borrow.Author.Rules.{rules}
use Rattle.twigs.proofs.Nodes.{node_data}
use Rattle.twigs.proofs.node_at.Statement.{statement}
use Rattle.twigs.proofs.node_at.Tie as tie

pub node_at_spec : {M : Type 1} → statement M
node_at_spec =
    tie.close
    (tie.spec
    (λ c. search rules)
    (λ c. search rules)
    (λ c. search rules)
    (λ c. search rules)
    (λ c. search rules)
    (λ c. search rules)
    (λ c. search rules)
    (λ c. search (node_data, rules)))
