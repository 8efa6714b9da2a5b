-- Numbers written into a lent list from a place on.
use Rattle.std.specs.Prelude.{List, ◌++◌, ℕ, ◌+◌, length, take, drop}

-- numbers written from a place on: what stands before and behind them is as it was
unfoldable pub written : ℕ → List ℕ → List ℕ → List ℕ
written at ws out = take at out ++ (ws ++ drop (at + length ws) out)
