-- Each node of a twig has its four bytes.
use Rattle.std.proofs.Common.{rules}
use Rattle.twigs.proofs.Nodes.{node_bytes}
use Rattle.twig_checks.proofs.check_twig.Goals as goal

pub check_node-checked-requires : goal.check_node-checked-requires
check_node-checked-requires c = search (node_bytes, rules)
