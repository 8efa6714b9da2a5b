-- Where a component leads to a name, that name written behind the others keeps them along the label.
use Rattle.std.proofs.Common.{rules}
use Rattle.match_label_decoding.proofs.Leading.{lead_next}
use Rattle.match_label_decoding.proofs.lead_on.Goals as goal

pub loop-j-preserved : goal.loop-j-preserved
loop-j-preserved c = (search rules, search (lead_next, rules))
