-- The words of a label: each by its place, by the largest that it may be, and several together.
use Prim.Native.Nat.{ℕ, zero, suc, ◌+◌, ◌-◌, ◌<◌, ◌≤◌}
use mathlib.Core.Path.{◌≡◌, refl, sym, ◌∙◌}
use mathlib.Core.Bool.{Bool, true, false}
use mathlib.Core.List.{List}
use mathlib.Core.Logic.{by_cases}
use native.Mathlib.Decide.{dec_lt}
use native.Mathlib.Numerals.{add-one}
use native.Mathlib.Omega.{arith}
use lib.Bits.{bit_or}
use lib.ListN.{get_or, get_or-replicate}
use lib.Seq.{get_or-take, get_or-drop}
use lib.Dec.{eqb, leb}
use borrow.Author.Tests.{eq-eqb, ne_eqb, le-leb, lt-leb}
use Rattle.basics.specs.Limits.{max_component, max_depth, label_size}
use Rattle.labelling.specs.Labels.{is_component}
use Rattle.basics.proofs.Tests.{is_true, and_iff, or_zero}
use Rattle.labels.proofs.Steps.{passed}
use Rattle.label_words.specs.Words.{word_fits, largest_words, words_fit}

-- word w of a label, by its place and the depth
module _ (depth w x : ℕ) where
  -- a used component fits exactly if it is at most 65,534
  pub word_used : w ≤ depth → leb x max_component ≡ word_fits depth w x
  unfolding word_fits is_component
  word_used h = rw (le-leb w depth h)

  -- an unused component fits exactly if it is 0
  pub word_unused : depth < w → eqb x 0 ≡ word_fits depth w x
  unfolding word_fits
  word_unused h = rw (lt-leb w depth h)

-- ---- a word by the largest that it may be

module _ {largest : List ℕ} (told : largest ≡ largest_words) (depth w x : ℕ) (deep : depth ≤ max_depth) (low : w < label_size) where
  -- the largest that a used component may be
  used_entry : w ≤ depth → get_or largest (w + max_depth - depth) 0 ≡ max_component
  used_entry h =
      rw told (sym (get_or-take label_size largest_words (w + max_depth - depth) 0 (omega arith)) ∙ get_or-replicate label_size (w + max_depth - depth) max_component 0 (omega arith))

  -- the largest that an unused component may be
  unused_entry : depth < w → get_or largest (w + max_depth - depth) 0 ≡ 0
  unused_entry h =
      let behind : w + max_depth - depth ≡ label_size + (w - suc depth) = omega arith in
      rw (told, behind) (sym (get_or-drop label_size largest_words (w - suc depth) 0) ∙ get_or-replicate label_size (w - suc depth) 0 0 (omega arith))

  -- a word over the largest does not fit
  pub word_over : get_or largest (w + max_depth - depth) 0 < x → false ≡ word_fits depth w x
  word_over h = by_cases (dec_lt depth w)
      (λ l. sym (ne_eqb x 0 (λ e. omega arith)) ∙ word_unused depth w x l)
      (λ l. let used : w ≤ depth = omega arith in sym (lt-leb x max_component (omega (arith, used_entry used))) ∙ word_used depth w x used)

  -- a word up to the largest fits
  pub word_within : x ≤ get_or largest (w + max_depth - depth) 0 → true ≡ word_fits depth w x
  word_within h = by_cases (dec_lt depth w)
      (λ l. sym (eq-eqb x 0 (omega (arith, unused_entry l))) ∙ word_unused depth w x l)
      (λ l. let used : w ≤ depth = omega arith in sym (le-leb x max_component (omega (arith, used_entry used))) ∙ word_used depth w x used)

-- ---- several words together

module _ (fits : ℕ → ℕ → Bool) (ws : List ℕ) (at : ℕ) where
  -- before the first word every word read so far fits
  pub words_start : true ≡ words_fit fits ws at 0
  unfolding words_fit
  words_start = refl

  module _ (any k : ℕ) (inv : eqb any 0 ≡ words_fit fits ws at k) where
    -- one more word is read
    pub words_on : (m : ℕ) → eqb m 0 ≡ fits k (get_or ws (at + k) 0) → eqb (bit_or any m) 0 ≡ words_fit fits ws at (k + 1)
    unfolding words_fit
    words_on m is = rw (or_zero, inv, is, add-one)

    -- at the end the gathered number is 0 exactly if all n words fit
    pub words_end : (n : ℕ) → k ≤ n → n ≤ k → eqb any 0 ≡ words_fit fits ws at n
    words_end n low high = let all : n ≡ k = omega arith in rw all inv

  -- where n words fit together, each of them fits
  pub words_each : (n : ℕ) → words_fit fits ws at n ≡ true → (i : ℕ) → i < n → fits i (get_or ws (at + i) 0) ≡ true
  unfolding words_fit
  words_each zero e i high = absurd (omega arith)
  words_each (suc n) e i high =
      let (before, last) = (and_iff (words_fit fits ws at n) _).0 (passed e) in
      by_cases (dec_lt i n) (words_each n (is_true _ before) i) (λ l. let here : i ≡ n = omega arith in rw here (is_true _ last))

  -- where each of n words fits, they fit together
  pub words_all : (n : ℕ) → ((i : ℕ) → i < n → fits i (get_or ws (at + i) 0) ≡ true) → words_fit fits ws at n ≡ true
  unfolding words_fit
  words_all zero f = refl
  words_all (suc n) f = rw (words_all n (λ i high. f i (omega arith)), f n (omega arith))
