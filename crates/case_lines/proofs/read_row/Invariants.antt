-- What is left of the line gives the row of the whole.
use Rattle.std.proofs.Common.{◌≡◌, drop, false}
use Rattle.case_lines.specs.Lines.{numbers_of}
use Rattle.case_lines.proofs.read_row.Given as goal

abbrev pub invariant-loop-b : goal.invariant-loop-b
invariant-loop-b l = numbers_of false (drop l.from l.line) l.initial.row ≡ numbers_of l.inside (drop l.b-index l.b-items) l.row
