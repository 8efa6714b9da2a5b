-- The text of a refusal, written part by part.
use mathlib.Core.Path.{◌≡◌}
use mathlib.Core.List.{List, ◌++◌}
use Prim.Native.Nat.{ℕ, ◌+◌, ◌^◌, ◌≤◌, ◌<◌}
use native.Mathlib.Omega.{arith}
use lib.ListN.{length}
use Rattle.basics.specs.Basics.{over}
use Rattle.printouts.specs.Printing.{text, decimal, refusal_text}
use Rattle.words.specs.Writing.{written}
use Rattle.texts.specs.Texts.{number_line, refusal_room}
use Rattle.words.proofs.Writing.{written_over, length_written}
use Rattle.texts.proofs.Texts.{in_parts}
use Rattle.texts.proofs.Digits.{length_few}

-- four parts written in turn from the start are written over the front
four_parts : (a b c d text₀ : List ℕ) → length (a ++ (b ++ (c ++ d))) ≤ length text₀ → {r₁ r₂ r₃ : ℕ} {t₁ t₂ t₃ t₄ : List ℕ} →
    r₁ ≡ 0 + length a → t₁ ≡ written 0 a text₀ → r₂ ≡ r₁ + length b → t₂ ≡ written r₁ b t₁ → r₃ ≡ r₂ + length c → t₃ ≡ written r₂ c t₂ → t₄ ≡ written r₃ d t₃ →
    t₄ ≡ over (a ++ (b ++ (c ++ d))) text₀
four_parts a b c d text₀ room e₁ f₁ e₂ f₂ e₃ f₃ f₄ = rw (← written_over (a ++ (b ++ (c ++ d))) text₀) (grind (arith, in_parts, length_written))

-- the word before the number, the number, the word before the place, and the line of the place are the whole refusal
pub refusal_put : (number place : ℕ) (text₀ : List ℕ) → number < 2 ^ 8 → place < 2 ^ 64 → refusal_room ≤ length text₀ → {r₁ r₂ r₃ : ℕ} {t₁ t₂ t₃ t₄ : List ℕ} →
    r₁ ≡ 0 + length (text "refused ") → t₁ ≡ written 0 (text "refused ") text₀ →
    r₂ ≡ r₁ + length (decimal number) → t₂ ≡ written r₁ (decimal number) t₁ →
    r₃ ≡ r₂ + length (text " at ") → t₃ ≡ written r₂ (text " at ") t₂ → t₄ ≡ written r₃ (number_line place) t₃ →
    t₄ ≡ over (refusal_text (record { number = number; place = place })) text₀
unfolding refusal_text text
refusal_put number place text₀ small large room e₁ f₁ e₂ f₂ e₃ f₃ f₄ =
    four_parts (text "refused ") (decimal number) (text " at ") (number_line place) text₀ (grind (arith, in_parts, length_few)) e₁ f₁ e₂ f₂ e₃ f₃ f₄
