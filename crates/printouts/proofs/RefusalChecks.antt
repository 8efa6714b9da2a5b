-- Every refusal of the program at its corner is what the paper says.
use mathlib.Core.Path.{refl}
use Rattle.basics.specs.Examples.{Hold}
use Rattle.printouts.specs.RefusalChecks.{print_refusals}
use Rattle.printouts.proofs.Computing.{computing}

-- every refusal of the program has its number and place, in the order of the checks
pub print_refusals_lem : Hold print_refusals
unfolding computing
print_refusals_lem = refl
