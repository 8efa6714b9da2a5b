-- No record before the outer loop's breaks a rule, and the words before the inner loop's fit.
use Rattle.std.proofs.Common.{◌≡◌}
use Rattle.std.specs.Prelude.{Ok}
use Rattle.naming.specs.Names.{clues_of}
use Rattle.soundness.proofs.Scan.{Scanned}
use Rattle.soundness.proofs.Tested.{Tested}
use Rattle.soundness.proofs.first_fault.Given as goal

abbrev pub invariant-records : goal.invariant-records
invariant-records l = (l.found ≡ Ok tt) × Scanned (clues_of l.table) l.count l.store l.parents l.r

abbrev pub invariant-loop-w : goal.invariant-loop-w
invariant-loop-w l = (l.found ≡ Ok tt) × Tested (clues_of l.table) l.count l.store l.parents l.r l.w
