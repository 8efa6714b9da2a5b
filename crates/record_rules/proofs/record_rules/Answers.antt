-- A record that is ready can be tested by the rules of record 0, or behind the previous record.
use Rattle.std.proofs.Common.{rules}
use Rattle.record_rules.proofs.Ready.{root_inside, root_flat, child_inside, parent_inside, previous_shallow, child_shallow}
use Rattle.record_rules.proofs.Shared.{shares_behind}
use Rattle.record_rules.proofs.record_rules.Goals as goal

pub root_rules-requires : goal.root_rules-requires
root_rules-requires c = (search rules, search (root_inside, rules), search (root_flat, rules))

pub child_rules-requires : goal.child_rules-requires
child_rules-requires c = (
  search rules,
  search (shares_behind, rules),
  search (child_inside, rules),
  search (parent_inside, rules),
  search (previous_shallow, rules),
  search (child_shallow, rules),
)
