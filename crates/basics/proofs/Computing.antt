-- Every definition of the crate at once, for examples that the checker works through.
use mathlib.Core.List.{flat_map}
use Rattle.basics.specs.Basics.{elim?, all, keep, joined, up_to, total, stands, last, over}
use Rattle.basics.specs.Refusals.{check, first, reply}
use Rattle.basics.specs.Outputs.{listed, room_check}
use Rattle.basics.specs.Examples.{shown, told, basic_checks, limits, numbers}

-- `unfolding computing` opens every definition named here
unfoldable pub computing : Unit {0}
unfolding flat_map elim? all keep joined up_to total stands last over check first reply listed room_check shown told basic_checks limits numbers
computing = tt
