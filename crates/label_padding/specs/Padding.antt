-- The unused components of a label as they lie in sixteen words: each word by the depth.
use Rattle.std.specs.Prelude.{Bool, ◌||◌, List, ◌++◌, ℕ, replicate, leb, eqb}
use Rattle.basics.specs.Limits.{label_size}

-- the test of word w of a label of some depth by its unused components alone: behind the used ones it is 0
unfoldable pub rest_fits : ℕ → ℕ → ℕ → Bool
rest_fits depth w x = leb w depth || eqb x 0

-- the bits of each word that count in the test of unused components, from place 15 - depth on
abbrev pub unused_words : List ℕ
unused_words = replicate label_size 0 ++ replicate label_size 65535
