-- What a record shares, and one component more, is below 17.
use borrow.Author.Rules.{rules, Fits-under}
use Rattle.record_rules.proofs.Rules.{shared_few}
use Rattle.record_rules.proofs.child_rules.Goals as goal

pub overflow_add-s : goal.overflow_add-s
overflow_add-s c = Fits-under _ _ 17 (search (shared_few, rules)) tt
