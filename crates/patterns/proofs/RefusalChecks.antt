-- Every refusal of a twig at its corner is what the paper says.
use mathlib.Core.Path.{refl}
use Rattle.basics.specs.Examples.{Hold}
use Rattle.patterns.specs.RefusalChecks.{twig_refusals}
use Rattle.patterns.proofs.Computing.{computing}

-- the refusals of a twig have their numbers and places
pub twig_refusals_lem : Hold twig_refusals
unfolding computing
twig_refusals_lem = refl
