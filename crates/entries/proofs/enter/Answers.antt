-- The store can be searched, the words are a label, and the record that was found has it.
use Rattle.std.proofs.Common.{rules}
use Rattle.changes.proofs.Checks.{call_searchable, call_label, found_label}
use Rattle.entries.proofs.enter.Goals as goal

pub enter_below-requires : goal.enter_below-requires
enter_below-requires c = (search (call_searchable, rules), search (call_label, rules), search (found_label, rules))
