-- A byte more is read, and the bytes end.
use Rattle.std.proofs.Common.{rules}
use Rattle.case_lines.proofs.Read.{row_on, row_end}
use Rattle.case_lines.proofs.read_row.Goals as goal

pub loop-b-preserved : goal.loop-b-preserved
loop-b-preserved c = search (row_on, rules)

pub returns : goal.returns
returns c = search (row_end, rules)
