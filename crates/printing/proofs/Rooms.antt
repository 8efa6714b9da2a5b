-- Words written to an output: the check of its room, and that they stand at its start.
use Prim.Native.Nat.{ℕ, ◌*◌, ◌<◌, ◌≤◌}
use mathlib.Core.Path.{◌≡◌, sym, ap, ◌∙◌}
use mathlib.Core.Logic.{by_cases}
use mathlib.Core.List.{List}
use mathlib.Core.Option.{none-ne-some}
use native.Mathlib.Decide.{dec_lt}
use native.Mathlib.Omega.{arith}
use lib.ListN.{length, take, drop, replicate, length-append, length-replicate}
use lib.Seq.{length-take-le}
use lib.Dec.{leb→le}
use borrow.Author.Tests.{le-leb, lt-leb}
use Rattle.basics.specs.Basics.{over}
use Rattle.basics.specs.Refusals.{refuse, check, short_output}
use Rattle.basics.specs.Outputs.{room_check}
use Rattle.printouts.specs.Printing.{buffer_check}
use Rattle.basics.proofs.Refusals.{check_failed}
use Rattle.basics.proofs.Outputs.{take_over, room_iff}
use Rattle.refusals.specs.Answers.{verdict_of}
use Rattle.refusals.specs.declared.Refusal as declared
use Rattle.refusals.specs.declared.Verdict.{Verdict}
use Rattle.refusals.specs.declared.Verdict.TheVariants as verdict
use Rattle.refusals.proofs.Verdicts.{refused_some}

-- words for which an output has no room are refused, 17
pub room_failed : (ws out : List ℕ) → length out < length ws → room_check ws out ≡ refuse short_output 0
unfolding room_check
room_failed ws out h = check_failed _ short_output 0 (λ t. omega (arith, leb→le (length ws) (length out) t))

-- a verdict on an output's room that refuses tells that the words are too many, and is 17
pub room_refused : (ws out : List ℕ) {v : Verdict} {x : declared.Refusal} → v ≡ verdict_of (room_check ws out) → v ≡ verdict.Refused x →
    (length out < length ws) × (v ≡ verdict_of (refuse short_output 0))
room_refused ws out is e = by_cases (dec_lt (length out) (length ws))
    (λ h. (h, is ∙ ap verdict_of (room_failed ws out h)))
    (λ h. let (r, f) = refused_some _ is e in absurd (none-ne-some r (sym ((room_iff ws out).1 (omega arith)) ∙ f)))

-- an output of 32,000 words before it is written
abbrev pub cleared : List ℕ
cleared = replicate 32000 0

-- an output of 32,000 words is a buffer of 64,000 bytes
pub room_buffer : (ws : List ℕ) → room_check ws cleared ≡ buffer_check ws
unfolding room_check buffer_check
room_buffer ws =
    let size : length cleared ≡ 32000 = length-replicate {A = ℕ} 32000 0 in
    ap (λ b. check b short_output 0)
    (by_cases (dec_lt 32000 (length ws))
    (λ h. lt-leb (length ws) (length cleared) (omega arith) ∙ sym (lt-leb (2 * length ws) 64000 (omega arith)))
    (λ h. le-leb (length ws) (length cleared) (omega arith) ∙ sym (le-leb (2 * length ws) 64000 (omega arith))))

-- words written to an output stand at its start
pub taken : (ws out : List ℕ) {n : ℕ} {left : List ℕ} → n ≡ length ws → left ≡ over ws out → take n left ≡ ws
taken ws out e f = rw (e, f) (take_over ws out)

-- an output is no shorter than the words written to it
pub held : (ws out : List ℕ) {n : ℕ} {left : List ℕ} → n ≡ length ws → left ≡ over ws out → n ≤ length left
unfolding over
held ws out e f = rw f (omega (arith, length-append ws (drop (length ws) out)))

-- the first n words of an output that has as many are n
pub prefix_size : (n : ℕ) (left : List ℕ) → n ≤ length left → n ≡ length (take n left)
prefix_size n left h = sym (length-take-le n left h)
