-- A call that fills an output: what it answers and leaves, and whether the output is long enough.
use Rattle.std.specs.Prelude.{List, ℕ, length, leb}
use Rattle.std.proofs.Math.Option.{Option, none, some}
use Rattle.basics.specs.Basics.{over}
use Rattle.basics.specs.Refusals.{Refusal, check, short_output}

-- what a call that fills an output answers and leaves: the refusal, a count, the output
pub record Listing : Type 0 where
  pub refusal : Option Refusal
  pub count : ℕ
  pub output : List ℕ

-- a result of some words written to an output, or the refusal, with a count of 0 and the output as it was
unfoldable pub listed : Option Refusal → ℕ → List ℕ → List ℕ → Listing
listed none count ws out = record { refusal = none; count = count; output = over ws out }
listed (some r) count ws out = record { refusal = some r; count = 0; output = out }

-- the check of an output's length, 17
unfoldable pub room_check : List ℕ → List ℕ → Option Refusal
room_check ws out = check (leb (length ws) (length out)) short_output 0
