-- The examples of labels hold, and every refusal of a label at its corner is what the paper says.
use mathlib.Core.Path.{refl}
use Rattle.basics.specs.Examples.{Hold}
use Rattle.labelling.specs.Examples.{label_checks, label_refusals}
use Rattle.labelling.proofs.Computing.{computing}

-- of labels the definitions give what the paper says
pub label_checks_hold : Hold label_checks
unfolding computing
label_checks_hold = refl

-- the refusals of a label have their numbers and places
pub label_refusals_lem : Hold label_refusals
unfolding computing
label_refusals_lem = refl
