-- When a word is 0.
use Rattle.std.specs.Prelude.{ℕ, Bool, eqb}

-- the test of a word: whether it is 0
abbrev pub is_zero : ℕ → Bool
is_zero x = eqb x 0
