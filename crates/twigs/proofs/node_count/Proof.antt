-- `twigs::node_count` meets its contract: a twig has a node for every four bytes.
use borrow.Author.Rules.{rules}
use Rattle.twigs.proofs.Nodes.{length_twig}
use Rattle.twigs.proofs.node_count.Statement.{statement}
use Rattle.twigs.proofs.node_count.Tie as tie

pub node_count_spec : {M : Type 1} → statement M
node_count_spec = tie.close (tie.spec (λ c. search (length_twig, rules)))
