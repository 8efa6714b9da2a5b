-- A text that is written part by part: what is to come, and the laws by which it is written.
use mathlib.Core.Path.{◌≡◌, sym}
use mathlib.Core.List.{List, [], ◌∷◌, ◌++◌}
use Prim.Native.Nat.{ℕ, ◌+◌, ◌≤◌}
use native.Mathlib.Omega.{arith}
use lib.ListN.{length, length-append}
use Rattle.words.specs.Writing.{written}
use Rattle.words.proofs.Writing.{written_after, written_none}

-- what is written so far, with the bytes to come behind it, is what is to be written
abbrev pub ToCome : ℕ → List ℕ → List ℕ → ℕ → List ℕ → List ℕ → Type 0
ToCome at₀ whole text₀ at rest text = (at + length rest ≡ at₀ + length whole) × (written at₀ whole text₀ ≡ written at rest text)

-- bytes in two parts are written one part after the other
pub written_parts : (at : ℕ) (a b text : List ℕ) → at + length (a ++ b) ≤ length text → written at (a ++ b) text ≡ written (at + length a) b (written at a text)
written_parts at a b text room = sym (written_after at a b text (omega (arith, length-append a b)))

-- a byte and those behind it are written one after the other
pub written_first : (at b : ℕ) (rest text : List ℕ) → at + length (b ∷ rest) ≤ length text → written at (b ∷ rest) text ≡ written (at + 1) rest (written at (b ∷ []) text)
written_first at b rest text room = sym (written_after at (b ∷ []) rest text (omega arith))

-- the laws of bytes that are written in parts
pub ruleset in_parts = (length-append, written_none, written_parts)
