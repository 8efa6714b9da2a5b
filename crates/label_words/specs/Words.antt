-- Labels as they lie in sixteen words: each word by the depth.
use Rattle.std.specs.Prelude.{Bool, true, cond, ◌&&◌, List, ◌++◌, ℕ, zero, suc, ◌+◌, get_or, replicate, leb, eqb}
use Rattle.basics.specs.Limits.{max_component, label_size}
use Rattle.labelling.specs.Labels.{is_component}

-- the test of word w of a label of some depth: a used component is at most 65,534, an unused one 0
unfoldable pub word_fits : ℕ → ℕ → ℕ → Bool
word_fits depth w x = cond (leb w depth) (is_component x) (eqb x 0)

-- the largest that each word of a label may be, from place 15 - depth on
abbrev pub largest_words : List ℕ
largest_words = replicate label_size max_component ++ replicate label_size 0

-- the test of n words from a place of a slice on, each by its number
unfoldable pub words_fit : (ℕ → ℕ → Bool) → List ℕ → ℕ → ℕ → Bool
words_fit fits ws at zero = true
words_fit fits ws at (suc n) = words_fit fits ws at n && fits n (get_or ws (at + n) 0)
