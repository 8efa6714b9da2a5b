-- The unused components of a label: each word by its place, and by the bits that count.
use Prim.Native.Nat.{ℕ, suc, ◌+◌, ◌-◌, ◌%◌, ◌^◌, ◌<◌, ◌≤◌}
use mathlib.Core.Path.{◌≡◌, refl, sym, ap, ◌∙◌}
use mathlib.Core.Bool.{Bool, true, false, cond, ◌||◌}
use mathlib.Core.List.{List}
use mathlib.Core.Logic.{by_cases}
use native.Mathlib.Decide.{dec_lt}
use native.Mathlib.Nat.{mod-eq_of_lt}
use native.Mathlib.Omega.{arith}
use lib.Bits.{bit_and, and_mask, and_zero_r}
use lib.ListN.{get_or, get_or-replicate}
use lib.Seq.{get_or-take, get_or-drop}
use lib.Dec.{eqb, leb}
use borrow.Author.Tests.{le-leb, lt-leb}
use Rattle.basics.specs.Limits.{max_depth, label_size}
use Rattle.labelling.specs.Labels.{is_component}
use Rattle.label_words.specs.Words.{word_fits}
use Rattle.label_padding.specs.Padding.{rest_fits, unused_words}

-- word w of a label, by its place and the depth
module _ (depth w x : ℕ) where
  -- a word that fits is 0 where it is unused
  pub rest_of : word_fits depth w x ≡ true → rest_fits depth w x ≡ true
  unfolding word_fits rest_fits
  rest_of = go (leb w depth)
    where
      go : (b : Bool) → cond b (is_component x) (eqb x 0) ≡ true → (b || eqb x 0) ≡ true
      go true e = refl
      go false e = e

  -- an unused word that is 0 fits
  pub fit_of_rest : depth < w → rest_fits depth w x ≡ true → word_fits depth w x ≡ true
  unfolding word_fits rest_fits
  fit_of_rest h = rw (lt-leb w depth h) (λ e. e)

-- word w of a label, by the bits of it that count
module _ {unused : List ℕ} (told : unused ≡ unused_words) (depth w x : ℕ) (deep : depth ≤ max_depth) (low : w < label_size) where
  -- no bit of a used component counts
  used_bits : w ≤ depth → get_or unused (w + max_depth - depth) 0 ≡ 0
  used_bits h =
      rw told (sym (get_or-take label_size unused_words (w + max_depth - depth) 0 (omega arith)) ∙ get_or-replicate label_size (w + max_depth - depth) 0 0 (omega arith))

  -- every bit of an unused component counts
  unused_bits : depth < w → get_or unused (w + max_depth - depth) 0 ≡ 65535
  unused_bits h =
      let behind : w + max_depth - depth ≡ label_size + (w - suc depth) = omega arith in
      rw (told, behind) (sym (get_or-drop label_size unused_words (w - suc depth) 0) ∙ get_or-replicate label_size (w - suc depth) 65535 0 (omega arith))

  -- a word has none of the bits that count exactly where it is used or 0
  pub rest_bits : x < 65536 → eqb (bit_and x (get_or unused (w + max_depth - depth) 0)) 0 ≡ rest_fits depth w x
  unfolding rest_fits
  rest_bits small = by_cases (dec_lt depth w)
      (λ l.
      let whole : x % 2 ^ 16 ≡ x = mod-eq_of_lt small in
      rw (unused_bits l, lt-leb w depth l) (ap (λ y. eqb y 0) (and_mask x 16 ∙ whole)))
      (λ l. let used : w ≤ depth = omega arith in rw (used_bits used, le-leb w depth used) (ap (λ y. eqb y 0) (and_zero_r x)))
