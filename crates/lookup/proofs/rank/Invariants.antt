-- `lookup::rank` meets its contract: the number of records that pass stays between the two bounds.
use Rattle.std.proofs.Common.{◌-◌, ◌≤◌}
use Rattle.basics.specs.Basics.{leading}
use Rattle.storage.specs.Store.{elements}
use Rattle.lookup.specs.Places.{passes}
use Rattle.lookup.proofs.rank.Given as goal

abbrev pub invariant-loop-low : goal.invariant-loop-low
invariant-loop-low l = (l.high ≤ l.count) × (l.low ≤ leading (passes l.subtree l.label) (elements l.count l.store)) × (leading (passes l.subtree l.label) (elements l.count l.store) ≤ l.high)

abbrev pub decreases-loop-low : goal.decreases-loop-low
decreases-loop-low l = l.high - l.low
