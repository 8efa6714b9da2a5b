-- A store's file: the check of its length, and its words read one after the other.
use Prim.Native.Nat.{ℕ, zero, suc, ◌+◌, ◌*◌, ◌/◌, ◌%◌, ◌<◌, ◌≤◌}
use mathlib.Core.Path.{◌≡◌, refl, sym, ap, ◌∙◌}
use mathlib.Core.List.{List, [], ◌∷◌, ◌++◌}
use mathlib.Core.Option.{none}
use native.Mathlib.Numerals.{unary_clauses}
use native.Mathlib.Omega.{arith}
use mir.Syntax.{w8, w16}
use mir.Val.{Fits}
use lib.ListN.{length, get_or, take, drop, set}
use Rattle.basics.specs.Basics.{over}
use Rattle.basics.specs.Limits.{max_bytes, record_size}
use Rattle.basics.specs.Refusals.{refuse, store_size}
use Rattle.printouts.specs.Printing.{store_file_check, file_words}
use Rattle.basics.proofs.Refusals.{check_passed, check_failed}
use Rattle.printouts.proofs.FileStores.{store_file_iff, length-file_words}
use Rattle.refusals.specs.Answers.{verdict_of}
use Rattle.refusals.specs.declared.Verdict.{Verdict}
use Rattle.refusals.specs.declared.Verdict.TheVariants as verdict
use Rattle.words.proofs.Words.{over_more, over_all}

module _ (len : ℕ) {v : Verdict} (is : v ≡ verdict_of (refuse store_size 0)) where
  -- a length that is not accepted is refused
  file_refused : (store_file_check len ≡ none → ⊥) → v ≡ verdict_of (store_file_check len)
  unfolding store_file_check
  file_refused h = is ∙ ap verdict_of (sym (check_failed _ store_size 0 (λ t. h (check_passed _ store_size 0 t))))

  -- an empty file is refused
  pub file_empty : len ≡ 0 → v ≡ verdict_of (store_file_check len)
  file_empty e = file_refused (λ h. omega (arith, ((store_file_iff len).0 h).positive))

  -- a file of more than 64,000 bytes is refused
  pub file_long : max_bytes < len → v ≡ verdict_of (store_file_check len)
  file_long h = file_refused (λ k. omega (arith, ((store_file_iff len).0 k).small))

  -- a file whose last record is cut short is refused
  pub file_uneven : (len % (2 * record_size) ≡ 0 → ⊥) → v ≡ verdict_of (store_file_check len)
  file_uneven h = file_refused (λ k. h ((store_file_iff len).0 k).whole)

-- a file of whole records, with at least one and at most 64,000 bytes, is accepted
pub file_whole : (len : ℕ) → (len ≡ 0 → ⊥) → len ≤ max_bytes → len % (2 * record_size) ≡ 0 → verdict.Passed ≡ verdict_of (store_file_check len)
file_whole len some few whole = ap verdict_of (sym ((store_file_iff len).1 (record { positive = omega arith; small = few; whole = whole })))

-- word i of a file stands at two bytes, the low one first
file_words_at : (bytes : List ℕ) (i : ℕ) → 2 * i + 1 < length bytes → get_or (file_words bytes) i 0 ≡ get_or bytes (2 * i) 0 + 256 * get_or bytes (2 * i + 1) 0
unfolding file_words
file_words_at [] i h = absurd (omega arith)
file_words_at (a ∷ []) i h = absurd (omega arith)
file_words_at (a ∷ b ∷ bytes) zero h = refl
file_words_at (a ∷ b ∷ bytes) (suc i) h = simp unary_clauses (simp unary_clauses at (file_words_at bytes i (omega arith)))

-- the high byte of a word, times 256, is a word
pub byte_high : {b : ℕ} → Fits w8 b → Fits w16 (b * 256)
byte_high f = record { fits = omega (arith, f.fits) }

-- a low byte and a high one, times 256, make a word
pub byte_pair : {a b : ℕ} → Fits w8 a → Fits w8 b → Fits w16 (a + b * 256)
byte_pair f g = record { fits = omega (arith, f.fits, g.fits) }

module _ (bytes words₀ : List ℕ) {words : List ℕ} {i : ℕ} (inv : words ≡ take i (file_words bytes) ++ drop i words₀) {n : ℕ} (size : n ≡ length bytes / 2) where
  -- with word i read, the first i + 1 words are read
  pub read_more : length bytes ≤ 2 * length words₀ → i < n →
      set words i (get_or bytes (i * 2 + 0) 0 + get_or bytes (i * 2 + 1) 0 * 256) ≡ take (i + 1) (file_words bytes) ++ drop (i + 1) words₀
  read_more room h =
      let (low, high) = length-file_words bytes in
      let low_at : i * 2 + 0 ≡ 2 * i = omega arith in
      let high_at : i * 2 + 1 ≡ 2 * i + 1 = omega arith in
      let word : get_or bytes (2 * i) 0 + get_or bytes (2 * i + 1) 0 * 256 ≡ get_or (file_words bytes) i 0 = omega (arith, file_words_at bytes i (omega arith)) in
      rw (low_at, high_at, word) (over_more words₀ (file_words bytes) inv (omega arith) (omega arith))

  -- with n words read, the whole file is read
  pub read_all : i ≤ n → n ≤ i → words ≡ over (file_words bytes) words₀
  read_all h k = let (low, high) = length-file_words bytes in over_all words₀ (file_words bytes) {i = i} inv (omega arith) (omega arith)
