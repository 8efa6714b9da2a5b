-- The table has the pairs read so far.
use Rattle.name_files.proofs.Reading.{Reading}
use Rattle.name_files.proofs.put_pairs.Given as goal

abbrev pub invariant-loop-i : goal.invariant-loop-i
invariant-loop-i l = Reading l.file l.table l.i
