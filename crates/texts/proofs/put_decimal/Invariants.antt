-- The digits of the rest are to come before those that are written.
use Rattle.std.proofs.Common.{length, ◌+◌, ◌≡◌, ◌≤◌}
use Rattle.printouts.specs.Printing.{decimal}
use Rattle.words.specs.Writing.{written}
use Rattle.texts.proofs.put_decimal.Given as goal

abbrev pub invariant-loop-rest : goal.invariant-loop-rest
invariant-loop-rest l = record {
  place : l.i ≡ l.at + length (decimal l.rest);
  room : l.i ≤ length l.text;
  to_come : written l.at (decimal l.n) l.fn.text ≡ written l.at (decimal l.rest) l.text;
}

abbrev pub decreases-loop-rest : goal.decreases-loop-rest
decreases-loop-rest l = l.rest
