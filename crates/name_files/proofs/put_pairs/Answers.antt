-- A pair that did not stand before is put at the end of its parent's clue, and one pair more is read.
use Rattle.std.proofs.Common.{rules}
use Rattle.name_files.proofs.Answers.{more_read}
use Rattle.name_files.proofs.put_pairs.Goals as goal

pub loop-i-preserved : goal.loop-i-preserved
loop-i-preserved c = search (more_read, rules)
