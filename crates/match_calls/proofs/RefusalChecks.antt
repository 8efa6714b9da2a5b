-- Every refusal of matching at its corner is what the paper says.
use mathlib.Core.Path.{refl}
use Rattle.basics.specs.Examples.{Hold}
use Rattle.match_calls.specs.RefusalChecks.{match_refusals}
use Rattle.match_calls.proofs.Computing.{computing}

-- the refusals of matching have their numbers and places
pub match_refusals_lem : Hold match_refusals
unfolding computing
match_refusals_lem = refl
