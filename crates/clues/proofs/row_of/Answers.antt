-- A name has the names of its row.
use Rattle.std.proofs.Common.{[]}
use Rattle.clues.proofs.Rows.{clue_is}
use Rattle.clues.proofs.row_of.Goals as goal

pub returns-in-Some : goal.returns-in-Some
returns-in-Some c = clue_is c.args.table.now c.args.parent (c.in-Some.ensures.lookup.3.1 [])
