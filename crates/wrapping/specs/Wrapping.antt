-- Sums of two numbers, and numbers of a row, that wrap.
use Rattle.std.specs.Prelude.{ℕ, ◌+◌, ◌%◌, ◌^◌, List, slice_index}

-- the sum of two numbers of a machine word, which wraps
abbrev pub wrapped : ℕ → ℕ → ℕ
wrapped a b = (a + b) % 2 ^ 64

-- the number at a place of a row as a word
abbrev pub word_at : List ℕ → ℕ → ℕ
word_at row i = slice_index row i % 65536

-- the number at a place of a row as a byte
abbrev pub byte_at : List ℕ → ℕ → ℕ
byte_at row i = slice_index row i % 256
