-- Every refusal of new store, entry and deletion at its corner is what the paper says.
use mathlib.Core.Path.{refl}
use Rattle.basics.specs.Examples.{Hold}
use Rattle.store_calls.specs.RefusalChecks.{new_store_refusals, entry_refusals, deletion_refusals}
use Rattle.store_calls.proofs.Computing.{computing}

-- the refusals of a new store have their numbers and places
pub new_store_refusals_lem : Hold new_store_refusals
unfolding computing
new_store_refusals_lem = refl

-- the refusals of an entry have their numbers and places
pub entry_refusals_lem : Hold entry_refusals
unfolding computing
entry_refusals_lem = refl

-- the refusals of a deletion have their numbers and places
pub deletion_refusals_lem : Hold deletion_refusals
unfolding computing
deletion_refusals_lem = refl
