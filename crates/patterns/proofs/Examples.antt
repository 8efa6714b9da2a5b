-- The examples of twigs hold.
use mathlib.Core.Path.{refl}
use Rattle.basics.specs.Examples.{Hold}
use Rattle.patterns.specs.Examples.{pattern_checks}
use Rattle.patterns.proofs.Computing.{computing}

-- of twigs the definitions give what the paper says
pub pattern_checks_hold : Hold pattern_checks
unfolding computing
pattern_checks_hold = refl
