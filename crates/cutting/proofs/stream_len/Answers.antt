-- One record more is counted, whether its label is asked for or not, and at the end all are.
use Rattle.std.proofs.Common.{rules}
use Rattle.cutting.proofs.Streams.{count_end, count_taken, count_left}
use Rattle.cutting.proofs.stream_len.Goals as goal
use Rattle.cutting.proofs.stream_len.Goals.{then-is_taken, else-is_taken}

pub loop-r-preserved : goal.loop-r-preserved
loop-r-preserved c = elim c.if-is_taken.branch [ then-is_taken w ↦ search (count_taken, rules) | else-is_taken w ↦ search (count_left, rules) ]

pub returns : goal.returns
returns c = search (count_end, rules)
