-- The bytes before the loop's are filler if the least of them is.
use Rattle.std.proofs.Common.{◌≤◌}
use Rattle.basics.specs.Limits.{filler}
use Rattle.table_checks.proofs.Marks.{Least}
use Rattle.table_checks.proofs.all_filler.Given as goal

abbrev pub invariant-loop-byte : goal.invariant-loop-byte
invariant-loop-byte l = (l.least ≤ filler) × Least l.rest l.byte-index l.least
