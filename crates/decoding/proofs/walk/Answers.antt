-- Before the first component the name reached is the root's; a component that leads nowhere is refused;
-- behind the last one the names are those of the path.
use Rattle.std.proofs.Common.{rules}
use Rattle.decoding.proofs.Steps.{walk_from, walk_stuck, walk_end}
use Rattle.decoding.proofs.walk.Goals as goal

pub loop-i-init : goal.loop-i-init
loop-i-init c = search (walk_from, rules)

pub returns-in_default : goal.returns-in_default
returns-in_default c = search (walk_stuck, rules)

pub returns : goal.returns
returns c = search (walk_end, rules)
