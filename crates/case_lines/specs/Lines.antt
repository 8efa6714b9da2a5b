-- A line of a file of cases: where its bar stands, and its numbers.
use Rattle.std.specs.Prelude.{Bool, false, cond, List, [], ◌∷◌, ℕ, suc, ◌*◌, ◌%◌, get_or, set, eqb, leb, ltb}
use Rattle.wrapping.specs.Wrapping.{wrapped}

-- where the first bar of a line stands; its end where there is none
unfoldable pub bar_of : List ℕ → ℕ
bar_of [] = 0
bar_of (b ∷ more) = cond (eqb b 124) 0 (suc (bar_of more))

-- a byte is a digit
unfoldable pub digit : ℕ → Bool
digit b = cond (ltb b 48) false (leb b 57)

-- a digit behind the digits of the number at a place of a row; of a number with no room for it the front is lost
unfoldable pub behind_digits : ℕ → ℕ → List ℕ → List ℕ
behind_digits n b row = set row n (wrapped (get_or row n 0 % 1844674407370955161 * 10) (b % 16))

-- the place of the number that a digit belongs to: the last number's inside one, and otherwise the next
unfoldable pub place_of : Bool → List ℕ → ℕ
place_of inside row = cond inside (get_or row 0 0) (wrapped (get_or row 0 0) 1)

-- a digit read into a row, whose first place tells how many numbers follow
unfoldable pub with_digit : ℕ → ℕ → List ℕ → List ℕ
with_digit n b row = behind_digits n b (set row 0 n)

-- a byte read into a row: a digit goes to its number, and any other byte leaves the row
unfoldable pub with_byte : Bool → ℕ → List ℕ → List ℕ
with_byte inside b row = cond (digit b) (with_digit (place_of inside row) b row) row

-- bytes read into a row, from inside a number or not
unfoldable pub numbers_of : Bool → List ℕ → List ℕ → List ℕ
numbers_of inside [] row = row
numbers_of inside (b ∷ more) row = numbers_of (digit b) more (with_byte inside b row)
