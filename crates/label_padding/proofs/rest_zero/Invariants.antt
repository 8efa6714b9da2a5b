-- What is gathered is 0 exactly if all unused words before the loop's index are.
use Rattle.std.proofs.Common.{eqb, ◌≡◌}
use Rattle.label_words.specs.Words.{words_fit}
use Rattle.label_padding.specs.Padding.{rest_fits}
use Rattle.label_padding.proofs.rest_zero.Given as goal

abbrev pub invariant-loop-w : goal.invariant-loop-w
invariant-loop-w l = eqb l.any 0 ≡ words_fit (rest_fits l.depth) l.store l.at l.w
