-- The labels before the loop's stand, their shares are counted, and the names along them are written.
use Rattle.std.proofs.Common.{length}
use Rattle.naming.specs.Names.{clues_of}
use Rattle.match_stream_checks.proofs.Reading.{Reading}
use Rattle.match_stream_checks.proofs.check_stream.Given as goal

abbrev pub invariant-loop-i : goal.invariant-loop-i
invariant-loop-i l = Reading (clues_of l.table) l.root l.want l.base (length l.fn.shares) l.stream l.i l.names l.shares l.paths
