-- The examples of records hold.
use mathlib.Core.Path.{refl}
use Rattle.basics.specs.Examples.{Hold}
use Rattle.storage.specs.Examples.{record_checks, rule_checks}
use Rattle.storage.proofs.Computing.{computing}

-- of records and stores the definitions give what the paper says
pub record_checks_hold : Hold record_checks
unfolding computing
record_checks_hold = refl

-- of records that are not sound the definitions give number and place as request #101 says
pub rule_checks_hold : Hold rule_checks
unfolding computing
rule_checks_hold = refl
