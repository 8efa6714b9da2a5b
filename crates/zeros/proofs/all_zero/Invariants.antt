-- What is gathered is 0 exactly if all words before the loop's index are.
use Rattle.std.proofs.Common.{◌≡◌, drop, eqb, ◌&&◌}
use Rattle.basics.specs.Basics.{all}
use Rattle.zeros.specs.Words.{is_zero}
use Rattle.zeros.proofs.all_zero.Given as goal

abbrev pub invariant-loop-word : goal.invariant-loop-word
invariant-loop-word l = all is_zero l.s ≡ (eqb l.any 0 && all is_zero (drop l.word-index l.s))
