-- The files of the program that prints: their lengths, and what an accepted file holds.
use mathlib.Core.Path.{◌≡◌, refl}
use mathlib.Core.Logic.Iff
use mathlib.Core.Logic.{◌↔◌}
use mathlib.Core.Bool.{◌&&◌}
use mathlib.Core.List.{[], ◌∷◌, List}
use mathlib.Core.Option.{none}
use Prim.Native.Nat.{ℕ, ◌*◌, ◌%◌, ◌≤◌, ◌+◌, ◌<◌, ◌/◌}
use native.Mathlib.Nat.{mul-mod_right}
use native.Mathlib.Omega.{arith}
use lib.ListN.{length}
use lib.Dec.{leb→le, le→leb, ltb, leb, eqb, ltb→lt, lt→ltb}
use Rattle.basics.specs.Limits.{max_bytes, record_size}
use Rattle.basics.specs.Refusals.{short_output, store_size}
use Rattle.storage.specs.Store.{size_check}
use Rattle.printouts.specs.Printing.{buffer_check, file_count, file_words, store_file_check}
use Rattle.printouts.specs.Printable.{StoreLength}
use Rattle.printouts.specs.Examples.{word_bytes}
use Rattle.basics.proofs.Tests.{and_facts, eqb_alike}
use Rattle.basics.proofs.Refusals.{check_iff}
use Rattle.storage.proofs.Sizes.{size_iff}

-- a store's file is accepted by its length exactly if the length is not 0, at most 64,000 and a multiple of 40
pub store_file_iff : (len : ℕ) → store_file_check len ≡ none ↔ StoreLength len
unfolding store_file_check
store_file_iff len = Iff.trans
    (check_iff _ store_size 0 (and_facts (ltb 0 len && leb len max_bytes) (eqb (len % (2 * record_size)) 0)
    (and_facts (ltb 0 len) (leb len max_bytes) (ltb→lt 0 len, lt→ltb 0 len) (leb→le len max_bytes, le→leb len max_bytes))
    (eqb_alike (len % (2 * record_size)) 0)))
    (λ h. record { positive = h.0.0; small = h.0.1; whole = h.1 }, λ s. ((s.positive, s.small), s.whole))

-- words fit a buffer exactly if they take at most 64,000 bytes
pub buffer_iff : (ws : List ℕ) → buffer_check ws ≡ none ↔ (2 * length ws ≤ max_bytes)
unfolding buffer_check
buffer_iff ws = check_iff _ short_output 0 (leb→le (2 * length ws) max_bytes, le→leb (2 * length ws) max_bytes)

-- a file has a word for every two bytes
pub length-file_words : (bytes : List ℕ) → (2 * length (file_words bytes) ≤ length bytes) × (length bytes < 2 * length (file_words bytes) + 2)
unfolding file_words
length-file_words [] = omega arith
length-file_words (a ∷ []) = omega arith
length-file_words (a ∷ b ∷ bytes) = let h = length-file_words bytes in omega arith

-- words written to a file are read back
pub file_words-word_bytes : (ws : List ℕ) → file_words (word_bytes ws) ≡ ws
unfolding file_words word_bytes
file_words-word_bytes [] = refl
file_words-word_bytes (w ∷ ws) = let e : w % 256 + 256 * (w / 256) ≡ w = omega arith in rw (e, file_words-word_bytes ws)

-- a store's file whose length is accepted gives a slice's length and a count that are accepted
pub store_file_sized : (store : List ℕ) → store_file_check (length store) ≡ none → size_check (length (file_words store)) (file_count store) ≡ none
unfolding file_count
store_file_sized store e =
    let sized = (store_file_iff (length store)).0 e in
    let (low, high) = length-file_words store in
    let count : ℕ = length store / (2 * record_size) in
    let bytes : length store ≡ 2 * record_size * count = omega arith in
    let words : length (file_words store) ≡ record_size * count = omega arith in
    (size_iff (length (file_words store)) (length store / (2 * record_size))).1 (record {
      whole = rw words (mul-mod_right record_size count);
      positive = omega arith;
      used = omega arith;
      held = omega arith;
      few = omega arith;
    })
