-- The store can be searched, and the record that was found has the label.
use Rattle.std.proofs.Common.{rules}
use Rattle.bridges.proofs.Options.{given_some}
use Rattle.changes.proofs.Checks.{call_searchable}
use Rattle.deletions.proofs.delete.Goals as goal

pub remove_subtree-requires : goal.remove_subtree-requires
remove_subtree-requires c = (search (call_searchable, rules), search (given_some, rules))
