-- A name that is not marked yet is marked, and the test goes on.
use Rattle.std.proofs.Common.{rules}
use Rattle.table_checks.proofs.Marks.{mark_on}
use Rattle.table_checks.proofs.names_once.Goals as goal

pub loop-name-preserved : goal.loop-name-preserved
loop-name-preserved c = (search rules, search (mark_on, rules))
