-- The labels are alike before the loop's index, and the order of what is left is theirs.
use Rattle.std.proofs.Common.{drop, ◌≡◌}
use Rattle.labelling.specs.Labels.{before}
use Rattle.label_order.proofs.before.Given as goal

abbrev pub invariant-loop-i : goal.invariant-loop-i
invariant-loop-i l = before l.a l.b ≡ before (drop l.i l.a) (drop l.i l.b)
