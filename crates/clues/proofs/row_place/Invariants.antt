-- The search has not found the name before the loop's index.
use Rattle.clues.proofs.Rows.{Searched}
use Rattle.clues.proofs.row_place.Given as goal

abbrev pub invariant-loop-i : goal.invariant-loop-i
invariant-loop-i l = Searched l.child l.row l.i
