-- Words of a label as one number.
use Rattle.std.specs.Prelude.{List, [], ◌∷◌, Bool, ℕ, ◌+◌, ◌*◌, ◌^◌, ltb}

-- a word has sixteen binary digits
abbrev pub is_word : ℕ → Bool
is_word x = ltb x (2 ^ 16)

-- words as one number, the first of them lowest
unfoldable pub joined_words : List ℕ → ℕ
joined_words [] = 0
joined_words (w ∷ ws) = joined_words ws * 2 ^ 16 + w
