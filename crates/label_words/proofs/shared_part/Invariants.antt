-- The components before the loop's index are shared.
use Rattle.std.proofs.Common.{drop, ◌+◌, ◌-◌, ◌≡◌, ◌≤◌}
use Rattle.labelling.specs.Labels.{shared}
use Rattle.label_words.proofs.shared_part.Given as goal

abbrev pub invariant-loop-i : goal.invariant-loop-i
invariant-loop-i l = (l.i ≤ l.n) × (shared l.a l.b ≡ l.i + shared (drop l.i l.a) (drop l.i l.b))

abbrev pub decreases-loop-i : goal.decreases-loop-i
decreases-loop-i l = l.n - l.i
