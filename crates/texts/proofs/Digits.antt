-- Numbers in decimal: the last digit and those before it, how many there are, and how they are written.
use mathlib.Core.Path.{◌≡◌, sym, ap, ◌∙◌}
use mathlib.Core.Logic.{by_cases}
use mathlib.Core.List.{List, [], ◌∷◌, ◌++◌}
use Prim.Native.Nat.{ℕ, zero, suc, ◌+◌, ◌/◌, ◌%◌, ◌^◌, ◌≤◌, ◌<◌}
use native.Mathlib.Decide.{dec_lt}
use native.Mathlib.Omega.{arith}
use lib.ListN.{length, length-append, set}
use borrow.Author.Tests.{lt-ltb, le-ltb}
use Rattle.printouts.specs.Printing.{zero_digit, digits, decimal}
use Rattle.words.specs.Writing.{written}
use Rattle.words.proofs.Writing.{written_one, written_before}

-- a number below ten is printed by its digit
pub decimal_digit : (n : ℕ) → n < 10 → decimal n ≡ (zero_digit + n) ∷ []
unfolding decimal digits
decimal_digit n h = rw (lt-ltb n 10 h)

-- fuel above a number is fuel enough
digits_fuel : (f g n : ℕ) → n < f → n < g → digits f n ≡ digits g n
unfolding digits
digits_fuel zero g n h k = absurd (omega arith)
digits_fuel (suc f) zero n h k = absurd (omega arith)
digits_fuel (suc f) (suc g) n h k =
    by_cases (dec_lt n 10)
    (λ p. rw (lt-ltb n 10 p))
    (λ p. let q : 10 ≤ n = omega arith in rw (le-ltb n 10 q, digits_fuel f g (n / 10) (omega arith) (omega arith)))

-- a number from ten on has the digits of its tenth, and one more
pub decimal_more : (n : ℕ) → 10 ≤ n → decimal n ≡ decimal (n / 10) ++ ((zero_digit + n % 10) ∷ [])
unfolding decimal digits
decimal_more n h =
    rw (le-ltb n 10 h) (ap (λ s. s ++ ((zero_digit + n % 10) ∷ [])) (digits_fuel n (suc (n / 10)) (n / 10) (omega arith) (omega arith)))

-- a number of two digits or more has one digit more than its tenth
pub length_more : (n : ℕ) → 10 ≤ n → length (decimal n) ≡ length (decimal (n / 10)) + 1
length_more n h = ap length (decimal_more n h) ∙ length-append (decimal (n / 10)) ((zero_digit + n % 10) ∷ [])

-- a number below ten has one digit
pub length_one : (n : ℕ) → n < 10 → length (decimal n) ≡ 1
length_one n h = ap length (decimal_digit n h)

-- a number below ten to some power has no more digits than that
pub decimal_short : (k n : ℕ) → n < 10 ^ suc k → length (decimal n) ≤ suc k
decimal_short zero n h = omega (arith, length_one n (omega arith))
decimal_short (suc k) n h =
    by_cases (dec_lt n 10)
    (λ p. omega (arith, length_one n p))
    (λ p. omega (arith, length_more n (omega arith), decimal_short k (n / 10) (omega arith)))

-- a number of sixty-four bits has at most twenty digits
pub length_few : (n : ℕ) → n < 2 ^ 64 → length (decimal n) ≤ 20
length_few n h = decimal_short 19 n (omega arith)

-- the digits of a number from ten on are written: those of its tenth, behind them its last
pub written_tenth : (at rest : ℕ) (text : List ℕ) (i d : ℕ) → 10 ≤ rest → i ≡ at + length (decimal (rest / 10)) → i < length text → d ≡ zero_digit + rest % 10 →
    written at (decimal (rest / 10)) (set text i d) ≡ written at (decimal rest) text
written_tenth at rest text i d h e k f =
    let tenth : List ℕ = decimal (rest / 10) in
    let room : at + length tenth + 1 ≤ length text = omega arith in
    rw (f, e, decimal_more rest h, written_one (at + length tenth) (zero_digit + rest % 10) text room)
    (written_before at tenth ((zero_digit + rest % 10) ∷ []) text room)

-- the digit of a number below ten is written
pub written_digit : (at rest : ℕ) (text : List ℕ) → rest < 10 → at < length text → written at (decimal rest) text ≡ set text at (zero_digit + rest)
written_digit at rest text h k = rw (decimal_digit rest h) (sym (written_one at (zero_digit + rest) text (omega arith)))
