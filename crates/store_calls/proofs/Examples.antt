-- The examples of new store, entry and deletion hold.
use mathlib.Core.Path.{refl}
use Rattle.basics.specs.Examples.{Hold}
use Rattle.store_calls.specs.Examples.{update_checks}
use Rattle.store_calls.proofs.Computing.{computing}

-- new store, entry and deletion answer and leave what the paper says
pub update_checks_hold : Hold update_checks
unfolding computing
update_checks_hold = refl
