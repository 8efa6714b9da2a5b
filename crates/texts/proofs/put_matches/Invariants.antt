-- The lines of the matches behind those written are to come, and the line of the count.
use Rattle.printouts.specs.Printing.{matches_text}
use Rattle.texts.specs.Texts.{matches_in}
use Rattle.texts.proofs.Texts.{ToCome}
use Rattle.texts.proofs.MatchTexts.{lines}
use Rattle.texts.proofs.put_matches.Given as goal

abbrev pub invariant-loop-m : goal.invariant-loop-m
invariant-loop-m l = ToCome 0 (matches_text (matches_in l.k l.count l.words)) l.fn.text l.end (lines l.k l.count l.words l.m) l.text
