-- The numbers left are names, each once, and none of them is marked.
use Rattle.std.proofs.Common.{◌≡◌, length}
use Rattle.basics.specs.Limits.{table_size}
use Rattle.table_checks.proofs.Marks.{Marked}
use Rattle.table_checks.proofs.names_once.Given as goal

abbrev pub invariant-loop-name : goal.invariant-loop-name
invariant-loop-name l = (length l.seen ≡ table_size) × Marked l.names l.name-index l.seen
