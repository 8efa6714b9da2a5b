use Rattle.std.proofs.Common.{rules}
use Rattle.texts.proofs.Digits.{length_more, written_tenth}
use Rattle.texts.proofs.put_decimal.Goals as goal

pub loop-rest-preserved : goal.loop-rest-preserved
loop-rest-preserved c = search (length_more, written_tenth, rules)
