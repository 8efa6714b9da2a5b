-- A name that may be asked for, and one that is, for each way out of the test of it.
use Prim.Native.Nat.{ℕ, ◌<◌, ◌≤◌}
use mathlib.Core.Path.{◌≡◌}
use mathlib.Core.Bool.{◌||◌}
use lib.Dec.{leb, eqb}
use borrow.Author.Tests.{eq-eqb, ne_eqb, le-leb, lt-leb}
use Rattle.basics.specs.Limits.{max_name, any_name}
use Rattle.naming.specs.Names.{is_name}
use Rattle.embeddings.specs.Matches.{asks}

-- a name up to 63 may be asked for
pub asked_name : (want : ℕ) → want ≤ max_name → leb want max_name ≡ (is_name want || eqb want any_name)
unfolding is_name
asked_name want h = rw (le-leb _ _ h)

-- a number above 63 may be asked for only if it is 255
pub asked_high : (want : ℕ) → max_name < want → eqb want any_name ≡ (is_name want || eqb want any_name)
unfolding is_name
asked_high want h = rw (lt-leb _ _ h)

-- 255 asks for any name
pub asks_any : (want name : ℕ) → want ≡ any_name → eqb want any_name ≡ asks want name
unfolding asks
asks_any want name h = rw (eq-eqb _ _ h)

-- a number other than 255 asks for the name that it is
pub asks_itself : (want name : ℕ) → (want ≡ any_name → ⊥) → eqb want name ≡ asks want name
unfolding asks
asks_itself want name h = rw (ne_eqb _ _ h)
