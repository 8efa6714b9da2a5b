-- The labels behind those written are to come, a space before each, and a newline.
use Rattle.match_calls.specs.Matching.{labels_in}
use Rattle.printouts.specs.Printing.{match_line}
use Rattle.texts.proofs.Texts.{ToCome}
use Rattle.texts.proofs.LineTexts.{spaced}
use Rattle.texts.proofs.put_match.Given as goal

abbrev pub invariant-loop-i : goal.invariant-loop-i
invariant-loop-i l = ToCome l.at (match_line (labels_in l.k l.words)) l.fn.text l.end (spaced l.k l.words l.i) l.text
