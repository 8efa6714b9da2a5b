-- The sixteen words of a label that stands in a list.
use Prim.Native.Nat.{ℕ, ◌+◌, ◌≤◌}
use mathlib.Core.Path.{◌≡◌}
use mathlib.Core.List.{List}
use native.Mathlib.Omega.{arith}
use lib.ListN.{length, take, drop, length-drop}
use lib.Seq.{length-take-le}
use Rattle.basics.specs.Limits.{label_size}

-- a label that stands in a list from a place on has sixteen words
pub label_long : (from : List ℕ) (at : ℕ) → at + label_size ≤ length from → length (take label_size (drop at from)) ≡ label_size
label_long from at room = length-take-le label_size (drop at from) (omega (arith, length-drop at from))
