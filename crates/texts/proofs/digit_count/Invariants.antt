-- The digits counted and those of the rest are all of them and one more.
use Rattle.std.proofs.Common.{length, ◌+◌, ◌≡◌}
use Rattle.printouts.specs.Printing.{decimal}
use Rattle.texts.proofs.digit_count.Given as goal

abbrev pub invariant-loop-rest : goal.invariant-loop-rest
invariant-loop-rest l = l.count + length (decimal l.rest) ≡ length (decimal l.n) + 1

abbrev pub decreases-loop-rest : goal.decreases-loop-rest
decreases-loop-rest l = l.rest
