-- The lengths before the loop's index are written.
use Rattle.clue_lengths.proofs.Lengths.{Written}
use Rattle.clue_lengths.proofs.lengths_of.Given as goal

abbrev pub invariant-loop-i : goal.invariant-loop-i
invariant-loop-i l = Written l.table l.i l.lengths
