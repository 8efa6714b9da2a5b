-- Giving a number to a child: k is the place of its name in the parent's clue,
-- n the clue's length, f the parent's next number.
use Rattle.std.specs.Prelude.{◌≡◌, cond, ℕ, ◌+◌, ◌-◌, ◌*◌, ◌/◌, ◌%◌, ◌≤◌, ltb, leb}
use Rattle.std.proofs.Math.Option.{Option, none, some}

-- the least number that is at least f and leaves k when divided by n
unfoldable pub number : ℕ → ℕ → ℕ → ℕ
number n k f = cond (leb (f % n) k) (f - f % n + k) (f - f % n + n + k)

-- what it is to be the least number that is at least f and leaves k when divided by n
pub record Least (n k f x : ℕ) : Type 0 where
  pub high : f ≤ x
  pub leaves : x % n ≡ k
  pub least : (y : ℕ) → f ≤ y → y % n ≡ k → x ≤ y

-- Rules 2.1 and 2.2 of source document 004: the first child gets k; after a left sibling with the last component y
-- floor(y / n) * n + k if y mod n < k, otherwise the same with y / n rounded up.
unfoldable pub article_number : ℕ → ℕ → Option ℕ → ℕ
article_number n k none = k
article_number n k (some y) = cond (ltb (y % n) k) (y / n * n + k) ((y + (n - 1)) / n * n + k)
