-- The components before the loop's index are shared.
use Rattle.std.proofs.Common.{drop, ◌+◌, ◌≡◌}
use Rattle.labelling.specs.Labels.{shared}
use Rattle.label_order.proofs.shared_from.Given as goal

abbrev pub invariant-loop-i : goal.invariant-loop-i
invariant-loop-i l = shared l.a l.b ≡ l.i + shared (drop l.i l.a) (drop l.i l.b)
