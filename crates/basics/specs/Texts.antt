-- Texts as bytes: that of a string, and numbers in decimal.
use Rattle.std.specs.Prelude.{cond, List, [], ◌∷◌, ◌++◌, ℕ, zero, suc, ◌+◌, ◌/◌, ◌%◌, ltb}
use Prim.Native.Char.{code}
use Prim.Native.String.{String, [] as nil, ◌∷◌ as ◌then◌}

-- the bytes of a text
unfoldable pub text : String → List ℕ
text nil = []
text (c then s) = code c ∷ text s

-- the byte that prints the digit 0
abbrev pub zero_digit : ℕ
zero_digit = 48

-- the decimal digits of a number below 10 ^ fuel
unfoldable pub digits : ℕ → ℕ → List ℕ
digits zero n = []
digits (suc fuel) n = let longer = digits fuel (n / 10) ++ ((zero_digit + n % 10) ∷ []) in cond (ltb n 10) ((zero_digit + n) ∷ []) longer

-- a number in decimal
unfoldable pub decimal : ℕ → List ℕ
decimal n = digits (suc n) n
