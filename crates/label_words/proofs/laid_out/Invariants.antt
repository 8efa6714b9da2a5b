-- What is gathered is 0 exactly if all words before the loop's index fit.
use Rattle.std.proofs.Common.{eqb, ◌≡◌}
use Rattle.label_words.specs.Words.{word_fits, words_fit}
use Rattle.label_words.proofs.laid_out.Given as goal

abbrev pub invariant-loop-w : goal.invariant-loop-w
invariant-loop-w l = eqb l.any 0 ≡ words_fit (word_fits l.bounded) l.words 0 l.w
