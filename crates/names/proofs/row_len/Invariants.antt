-- The names before the loop's index are counted.
use Rattle.names.proofs.Rows.{Counted}
use Rattle.names.proofs.row_len.Given as goal

abbrev pub invariant-loop-i : goal.invariant-loop-i
invariant-loop-i l = Counted l.row l.i
