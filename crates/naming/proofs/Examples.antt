-- The examples of names hold, and every refusal of a child-name file at its corner is what the paper says.
use mathlib.Core.Path.{refl}
use Rattle.basics.specs.Examples.{Hold}
use Rattle.naming.specs.Examples.{name_checks, file_refusals}
use Rattle.naming.proofs.Computing.{computing}

-- of names the definitions give what the paper says
pub name_checks_hold : Hold name_checks
unfolding computing
name_checks_hold = refl

-- the refusals of a child-name file have their numbers and places
pub file_refusals_lem : Hold file_refusals
unfolding computing
file_refusals_lem = refl
