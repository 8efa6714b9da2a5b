-- What the code that gives numbers answers, by the definitions of `labelling`.
use Rattle.std.specs.Prelude.{ℕ, cond, leb, ltb, Option, Some, None}
use Rattle.basics.specs.Limits.{max_component}
use Rattle.labelling.specs.Numbers.{number}

-- the answer for a number: the number up to 65,534, else that none is left
unfoldable pub number_answer : ℕ → Option ℕ
number_answer x = cond (leb x max_component) (Some x) None

-- the answer for the place k of n: the number, or that none is left, also where there is no such place
unfoldable pub number_for : ℕ → ℕ → ℕ → Option ℕ
number_for n k f = cond (ltb k n) (number_answer (number n k f)) None
