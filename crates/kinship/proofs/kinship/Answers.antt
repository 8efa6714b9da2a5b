-- Words that are not both labels are refused.
use Rattle.std.proofs.Common.{rules}
use Rattle.kinship.proofs.Steps.{kinship_refuses, not_both}
use Rattle.kinship.proofs.kinship.Goals as goal

pub returns-then-not-both_labels : goal.returns-then-not-both_labels
returns-then-not-both_labels c = search (kinship_refuses, not_both, rules)
