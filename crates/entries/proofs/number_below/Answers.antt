-- Where a number is given, the parent gives it.
use Rattle.std.proofs.Common.{rules}
use Rattle.entries.proofs.Gifts.{gift_given}
use Rattle.entries.proofs.number_below.Goals as goal

pub returns : goal.returns
returns c = search (gift_given, rules)
