-- What two labels share, four components at a time: as numbers they part at the first bit in which they differ.
use Prim.Native.Nat.{ℕ, zero, suc, ◌+◌, ◌*◌, ◌/◌, ◌^◌, ◌<◌, ◌≤◌}
use mathlib.Core.Path.{◌≡◌, refl, sym, ap, ap₂, subst, ◌∙◌}
use mathlib.Core.Bool.{Bool, true, false, cond}
use mathlib.Core.List.{List, [], ◌∷◌}
use native.Mathlib.Nat.{zero-add, pos_of_ne-zero}
use native.Mathlib.Omega.{arith}
use lib.Bits.{bit_xor, xor_add_and, xor_self, xor_lt, xor_block, and_le_l, and_le_r}
use lib.Count.{count_trailing_zeros, trailing_le}
use lib.ListN.{length, get_or, take, drop, length-drop}
use lib.Seq.{drop-drop, length-take-le}
use lib.Dec.{T, eqb, ltb→lt}
use borrow.Author.Tests.{lt-ltb}
use Rattle.basics.specs.Basics.{all}
use Rattle.labelling.specs.Labels.{Label, shared}
use Rattle.basics.proofs.Tests.{and_iff, Tells, passes, fails, eq?}
use Rattle.basics.proofs.Scans.{from_cons}
use Rattle.basics.proofs.Zeros.{trailing_above, trailing_below}
use Rattle.label_words.specs.Fours.{is_word, joined_words}

-- two numbers that differ in no bit are the same
xor_zero : (a b : ℕ) → bit_xor a b ≡ 0 → a ≡ b
xor_zero a b e = omega (arith, xor_add_and a b, and_le_l a b, and_le_r a b)

-- two lists of words share as many words as there are whole words below the first bit in which their numbers differ
first_change : (ws vs : List ℕ) → length ws ≡ length vs → T (all is_word ws) → T (all is_word vs) →
    count_trailing_zeros (length ws * 16) (bit_xor (joined_words ws) (joined_words vs)) / 16 ≡ shared ws vs
unfolding all joined_words shared
first_change [] [] same p q = omega (arith, trailing_le 0 (bit_xor 0 0))
first_change [] (v ∷ vs) same p q = absurd (omega arith)
first_change (w ∷ ws) [] same p q = absurd (omega arith)
first_change (w ∷ ws) (v ∷ vs) same p q =
    let (low_w, words_w) = (and_iff (is_word w) (all is_word ws)).0 p in
    let (low_v, words_v) = (and_iff (is_word v) (all is_word vs)).0 q in
    let small_w = ltb→lt w (2 ^ 16) low_w in
    let small_v = ltb→lt v (2 ^ 16) low_v in
    let longer : suc (length ws) * 16 ≡ length ws * 16 + 16 = omega arith in
    ap₂ (λ n x. count_trailing_zeros n x / 16) longer (xor_block 16 (joined_words ws) (joined_words vs) w v small_w small_v) ∙
    go (eqb w v) (eq? w v) (xor_lt 16 w v small_w small_v) (first_change ws vs (omega arith) words_w words_v)
  where
    go : (b : Bool) → Tells (w ≡ v) b → bit_xor w v < 2 ^ 16 → count_trailing_zeros (length ws * 16) (bit_xor (joined_words ws) (joined_words vs)) / 16 ≡ shared ws vs →
        count_trailing_zeros (length ws * 16 + 16) (bit_xor (joined_words ws) (joined_words vs) * 2 ^ 16 + bit_xor w v) / 16 ≡ cond b (suc (shared ws vs)) 0
    go true (passes e) small below =
        let none : bit_xor w v ≡ 0 = ap (λ x. bit_xor x v) e ∙ xor_self v in
        ap (λ r. count_trailing_zeros (length ws * 16 + 16) (bit_xor (joined_words ws) (joined_words vs) * 2 ^ 16 + r) / 16) none ∙
        ap (λ n. n / 16) (trailing_above (length ws * 16) (bit_xor (joined_words ws) (joined_words vs)) 16) ∙ omega arith
    go false (fails n) small below =
        let some : 0 < bit_xor w v = pos_of_ne-zero (λ e. n (xor_zero w v e)) in
        omega (arith, trailing_below (length ws * 16) (bit_xor (joined_words ws) (joined_words vs)) 16 (bit_xor w v) some small)

-- ---- two labels by their first components

-- where the first n components are not all shared, the labels share no more than those
front_parts : (n : ℕ) (l m : Label) → n ≤ length l → n ≤ length m → shared (take n l) (take n m) < n → shared l m ≡ shared (take n l) (take n m)
unfolding shared
front_parts zero l m h k e = absurd (omega arith)
front_parts (suc n) [] m h k e = absurd (omega arith)
front_parts (suc n) (x ∷ l) [] h k e = absurd (omega arith)
front_parts (suc n) (x ∷ l) (y ∷ m) h k e = go (eqb x y) e (front_parts n l m (omega arith) (omega arith))
  where
    go : (b : Bool) → cond b (suc (shared (take n l) (take n m))) 0 < suc n → (shared (take n l) (take n m) < n → shared l m ≡ shared (take n l) (take n m)) →
        cond b (suc (shared l m)) 0 ≡ cond b (suc (shared (take n l) (take n m))) 0
    go true e below = ap suc (below (omega arith))
    go false e below = refl

-- where the first n components are shared, the rest decides
front_shared : (n : ℕ) (l m : Label) → n ≤ length l → n ≤ length m → n ≤ shared (take n l) (take n m) → shared l m ≡ n + shared (drop n l) (drop n m)
unfolding shared
front_shared zero l m h k e = sym (zero-add _)
front_shared (suc n) [] m h k e = absurd (omega arith)
front_shared (suc n) (x ∷ l) [] h k e = absurd (omega arith)
front_shared (suc n) (x ∷ l) (y ∷ m) h k e = go (eqb x y) e (front_shared n l m (omega arith) (omega arith))
  where
    go : (b : Bool) → suc n ≤ cond b (suc (shared (take n l) (take n m))) 0 → (n ≤ shared (take n l) (take n m) → shared l m ≡ n + shared (drop n l) (drop n m)) →
        cond b (suc (shared l m)) 0 ≡ suc n + shared (drop n l) (drop n m)
    go true e below = omega (arith, below (omega arith))
    go false e below = absurd (omega arith)

-- four components from i on, where all components before i are shared
module _ (a b : Label) (i : ℕ) (inv : shared a b ≡ i + shared (drop i a) (drop i b)) (room_a : i + 4 ≤ length a) (room_b : i + 4 ≤ length b)
    {s : ℕ} (is : s ≡ shared (take 4 (drop i a)) (take 4 (drop i b))) where
  -- where fewer than four of the four are shared, the labels part there
  pub four_parts : s < 4 → i + s ≡ shared a b
  four_parts e =
      sym (inv ∙ ap (λ x. i + x) (front_parts 4 (drop i a) (drop i b) (omega (arith, length-drop i a)) (omega (arith, length-drop i b)) (subst (λ x. x < 4) is e) ∙ sym is))

  -- where all four are shared, the count goes on behind them
  pub four_on : 4 ≤ s → shared a b ≡ i + 4 + shared (drop (i + 4) a) (drop (i + 4) b)
  four_on e =
      inv ∙ ap (λ x. i + x) (front_shared 4 (drop i a) (drop i b) (omega (arith, length-drop i a)) (omega (arith, length-drop i b)) (subst (λ x. 4 ≤ x) is e)) ∙
      ap₂ (λ l m. i + (4 + shared l m)) (drop-drop 4 i a) (drop-drop 4 i b) ∙ omega arith

-- ---- four words as one number

module _ (s : List ℕ) (i : ℕ) (room : i + 4 ≤ length s) where
  -- four words from place i on, one by one
  four_words : take 4 (drop i s) ≡ get_or s i 0 ∷ get_or s (i + 1) 0 ∷ get_or s (i + 2) 0 ∷ get_or s (i + 3) 0 ∷ []
  four_words =
      let second : i + 1 + 1 ≡ i + 2 = omega arith in
      let third : i + 2 + 1 ≡ i + 3 = omega arith in
      rw (from_cons s i 0 (omega arith), from_cons s (i + 1) 0 (omega arith), second, from_cons s (i + 2) 0 (omega arith), third, from_cons s (i + 3) 0 (omega arith))

  module _ {p q r t : ℕ} (first : p ≡ get_or s i 0) (second : q ≡ get_or s (i + 1) 0) (third : r ≡ get_or s (i + 2) 0) (fourth : t ≡ get_or s (i + 3) 0) where
    -- the number that the code makes of four words is the words joined
    pub four_joined : (t * 65536 + r) * 65536 * 65536 + (q * 65536 + p) ≡ joined_words (take 4 (drop i s))
    unfolding joined_words
    four_joined = rw (four_words, ← first, ← second, ← third, ← fourth) (omega arith)

    -- each of the four words has sixteen digits
    pub four_small : p < 65536 → q < 65536 → r < 65536 → t < 65536 → T (all is_word (take 4 (drop i s)))
    unfolding all
    four_small e f g h = rw (four_words, ← first, ← second, ← third, ← fourth, lt-ltb p 65536 e, lt-ltb q 65536 f, lt-ltb r 65536 g, lt-ltb t 65536 h) tt

-- of four words of two labels as many are shared as there are whole words below the first bit that differs
pub four_change : (a b : List ℕ) (i : ℕ) → i + 4 ≤ length a → i + 4 ≤ length b → {x y : ℕ} → x ≡ joined_words (take 4 (drop i a)) → y ≡ joined_words (take 4 (drop i b)) →
    T (all is_word (take 4 (drop i a))) → T (all is_word (take 4 (drop i b))) → count_trailing_zeros 64 (bit_xor x y) / 16 ≡ shared (take 4 (drop i a)) (take 4 (drop i b))
four_change a b i h k p q small_a small_b =
    let four_a : length (take 4 (drop i a)) ≡ 4 = length-take-le 4 (drop i a) (omega (arith, length-drop i a)) in
    let four_b : length (take 4 (drop i b)) ≡ 4 = length-take-le 4 (drop i b) (omega (arith, length-drop i b)) in
    ap₂ (λ x y. count_trailing_zeros 64 (bit_xor x y) / 16) p q ∙
    ap (λ n. count_trailing_zeros (n * 16) (bit_xor (joined_words (take 4 (drop i a))) (joined_words (take 4 (drop i b)))) / 16) (sym four_a) ∙
    first_change (take 4 (drop i a)) (take 4 (drop i b)) (four_a ∙ sym four_b) small_a small_b

-- of four words at most four are shared
pub change_small : (z : ℕ) → count_trailing_zeros 64 z / 16 < 5
change_small z = omega (arith, trailing_le 64 z)
