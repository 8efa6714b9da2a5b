-- What the parent refuses is what the entry has.
use Rattle.std.proofs.Common.{rules}
use Rattle.entries.proofs.Gifts.{below_refused}
use Rattle.entries.proofs.enter_below.Goals as goal

pub returns-in-Err : goal.returns-in-Err
returns-in-Err c = search (below_refused, rules)
