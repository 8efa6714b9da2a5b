-- The four parts of a refusal are written in turn.
use Rattle.std.proofs.Common.{rules, arith}
use Rattle.printouts.specs.Printing.{refusal_text, text}
use Rattle.texts.proofs.Texts.{in_parts}
use Rattle.texts.proofs.RefusalTexts.{refusal_put}
use Rattle.texts.proofs.put_refusal.Goals as goal

pub returns : goal.returns
unfolding refusal_text text
returns c = (grind (arith, in_parts), search (refusal_put, rules))
