-- The rows before the loop's are good.
use Rattle.std.proofs.Common.{◌≡◌, drop}
use Rattle.basics.specs.Basics.{all}
use Rattle.naming.specs.Names.{good_row}
use Rattle.table_checks.proofs.rows_good.Given as goal

abbrev pub invariant-loop-p : goal.invariant-loop-p
invariant-loop-p l = all good_row l.table ≡ all good_row (drop l.p l.table)
