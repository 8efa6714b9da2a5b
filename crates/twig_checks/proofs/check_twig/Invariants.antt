-- What is left of the check is the check of the nodes left.
use Rattle.twig_checks.proofs.Checks.{Checked}
use Rattle.twig_checks.proofs.check_twig.Given as goal

abbrev pub invariant-loop-q : goal.invariant-loop-q
invariant-loop-q l = Checked l.twig l.q
