-- Every definition of the crate at once, and of the crates below it, for examples that the checker works through.
use Rattle.patterns.specs.Twigs.{read_twig, parent_fits, name_check, node_check, nodes_check, twig_check, is_parent, is_leaf, wanted, leaf_names}
use Rattle.patterns.specs.Examples.{garage_twig, pattern_checks}
use Rattle.patterns.specs.RefusalChecks.{chain_twig, twig_refusals}
use Rattle.labelling.proofs.Computing.{computing as below}

-- `unfolding computing` opens every definition named here
unfoldable pub computing : Unit {0}
unfolding below read_twig parent_fits name_check node_check nodes_check twig_check is_parent is_leaf wanted leaf_names garage_twig pattern_checks chain_twig twig_refusals
computing = tt
