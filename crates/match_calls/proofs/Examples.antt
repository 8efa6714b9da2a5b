-- The examples of matching hold.
use mathlib.Core.Path.{refl}
use Rattle.basics.specs.Examples.{Hold}
use Rattle.match_calls.specs.Examples.{match_call_checks}
use Rattle.match_calls.proofs.Computing.{computing}

-- matching answers and leaves what the paper says
pub match_checks_hold : Hold match_call_checks
unfolding computing
match_checks_hold = refl
