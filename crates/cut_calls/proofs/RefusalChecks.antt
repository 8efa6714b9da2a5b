-- Every refusal of cutting at its corner is what the paper says.
use mathlib.Core.Path.{refl}
use Rattle.basics.specs.Examples.{Hold}
use Rattle.cut_calls.specs.RefusalChecks.{cut_refusals}
use Rattle.cut_calls.proofs.Computing.{computing}

-- the refusals of cutting have their numbers and places
pub cut_refusals_lem : Hold cut_refusals
unfolding computing
cut_refusals_lem = refl
