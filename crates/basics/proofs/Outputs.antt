-- What is written over an output, and what a call that fills one answers.
use mathlib.Core.Path.{◌≡◌, refl, ap}
use mathlib.Core.Logic.{◌↔◌}
use mathlib.Core.List.{List}
use mathlib.Core.Option.{Option, none, some, none-ne-some, some-ne-none}
use Prim.Native.Nat.{ℕ, ◌≤◌}
use native.Mathlib.Omega.{arith}
use lib.ListN.{length, take, drop, length-append, length-drop}
use lib.Seq.{take_at, drop_at}
use lib.Dec.{leb, leb→le, le→leb}
use Rattle.basics.specs.Basics.{over}
use Rattle.basics.specs.Refusals.{Refusal, short_output}
use Rattle.basics.specs.Outputs.{Listing, listed, room_check}
use Rattle.basics.proofs.Refusals.{check_iff}

-- the words written stand at the start of the output
pub take_over : (ws out : List ℕ) → take (length ws) (over ws out) ≡ ws
unfolding over
take_over ws out = take_at ws (drop (length ws) out) (length ws) refl

-- past the words written the output is as it was
pub drop_over : (ws out : List ℕ) → drop (length ws) (over ws out) ≡ drop (length ws) out
unfolding over
drop_over ws out = drop_at ws (drop (length ws) out) (length ws) refl

-- an output that has room for the words written keeps its length
pub length_over : (ws out : List ℕ) → length ws ≤ length out → length (over ws out) ≡ length out
unfolding over
length_over ws out h = simp (length-append, length-drop) (omega arith)

-- an output is long enough exactly if the result is no longer than it
pub room_iff : (ws out : List ℕ) → room_check ws out ≡ none ↔ (length ws ≤ length out)
unfolding room_check
room_iff ws out = check_iff (leb (length ws) (length out)) short_output 0 (leb→le (length ws) (length out), le→leb (length ws) (length out))

-- the answer of a call that fills an output carries the refusal it was made from
pub listed_refusal : (o : Option Refusal) (count : ℕ) (ws out : List ℕ) → (listed o count ws out).refusal ≡ o
unfolding listed
listed_refusal none count ws out = refl
listed_refusal (some r) count ws out = refl

-- where nothing is refused, the whole result is written and counted
pub listed_whole : (o : Option Refusal) (count : ℕ) (ws out : List ℕ) → o ≡ none →
    listed o count ws out ≡ record { refusal = none; count = count; output = over ws out }
unfolding listed
listed_whole none count ws out e = refl
listed_whole (some r) count ws out e = absurd (some-ne-none r e)

-- where something is refused, the count is 0 and the output as it was
pub listed_refused : (o : Option Refusal) (count : ℕ) (ws out : List ℕ) (r : Refusal) → (listed o count ws out).refusal ≡ some r →
    listed o count ws out ≡ record { refusal = some r; count = 0; output = out }
unfolding listed
listed_refused none count ws out r e = absurd (none-ne-some r e)
listed_refused (some q) count ws out r e = ap {B = Listing} (λ o. record { refusal = o; count = 0; output = out }) e
