-- Sixteen words are a label exactly where each of them fits the depth.
use Prim.Native.Nat.{ℕ, zero, suc, ◌+◌, ◌<◌, ◌≤◌, min}
use mathlib.Core.Path.{◌≡◌, sym, subst, ◌∙◌}
use mathlib.Core.Logic.{by_cases}
use mathlib.Core.Bool.{true}
use mathlib.Core.List.{List}
use native.Mathlib.Decide.{dec_lt}
use native.Mathlib.Nat.{zero-add}
use native.Mathlib.Omega.{arith}
use lib.ListN.{length, get_or}
use lib.Bits.{bit_or}
use lib.Dec.{T, eqb}
use borrow.Author.Tests.{eq-eqb, ne_eqb, le-leb, leb-true, eqb-true}
use Rattle.basics.specs.Limits.{max_component, max_depth, label_size}
use Rattle.labelling.specs.Labels.{is_label}
use Rattle.basics.proofs.Tests.{is_true, is_false}
use Rattle.labelling.proofs.LabelWords.{IsLabel, is_label_iff}
use Rattle.label_words.specs.Words.{word_fits, words_fit}
use Rattle.label_words.proofs.Words.{word_used, word_unused, words_on, words_end, words_each, words_all}

module _ (l : List ℕ) where
  -- words that all fit are a label
  pub fits_label : length l ≡ label_size → get_or l 0 0 ≤ max_depth → ((i : ℕ) → i < label_size → word_fits (get_or l 0 0) i (get_or l i 0) ≡ true) → T (is_label l)
  fits_label sixteen deep fit = (is_label_iff l).1 (record {
    sixteen = sixteen;
    depth = deep;
    used = λ i h. leb-true _ max_component (word_used _ (suc i) _ (omega arith) ∙ fit (suc i) (omega arith));
    unused = λ i h k. eqb-true _ 0 (word_unused _ i _ h ∙ fit i k);
  })

  -- the words of a label all fit
  pub label_fits : T (is_label l) → (i : ℕ) → i < label_size → word_fits (get_or l 0 0) i (get_or l i 0) ≡ true
  label_fits t i k = by_cases (dec_lt (get_or l 0 0) i)
      (λ h. sym (word_unused _ i _ h) ∙ eq-eqb _ 0 (((is_label_iff l).0 t).unused i h k))
      (λ h. sym (word_used _ i _ (omega arith)) ∙ le-leb _ max_component (small ((is_label_iff l).0 t) i k (omega arith)))
    where
      small : IsLabel l → (i : ℕ) → i < label_size → i ≤ get_or l 0 0 → get_or l i 0 ≤ max_component
      small is zero k h = omega (arith, is.depth)
      small is (suc i) k h = is.used i (omega arith)

  -- ---- all sixteen words in turn, by a depth that is lessened to 15

  module _ (depth : ℕ) where
    -- one more word is read
    pub all_on : (any n : ℕ) → eqb any 0 ≡ words_fit (word_fits depth) l 0 n → (m : ℕ) → eqb m 0 ≡ word_fits depth n (get_or l n 0) → eqb (bit_or any m) 0 ≡ words_fit (word_fits depth) l 0 (n + 1)
    all_on any n inv m is = words_on (word_fits depth) l 0 any n inv m (rw zero-add is)

  module _ (sixteen : length l ≡ label_size) {depth : ℕ} (told : depth ≡ min (get_or l 0 0) max_depth) (any n : ℕ)
      (inv : eqb any 0 ≡ words_fit (word_fits depth) l 0 n) (low : n ≤ label_size) (high : label_size ≤ n) where
    -- at the end the gathered number is 0 exactly if all words fit
    all_fit : eqb any 0 ≡ words_fit (word_fits depth) l 0 label_size
    all_fit = words_end (word_fits depth) l 0 any n inv label_size low high

    -- for the words of a label the gathered number is 0
    fit_all : T (is_label l) → eqb any 0 ≡ true
    fit_all t =
        let whole : depth ≡ get_or l 0 0 = omega (arith, ((is_label_iff l).0 t).depth) in
        all_fit ∙ words_all (word_fits depth) l 0 label_size (λ i low. rw (whole, zero-add i) (label_fits t i low))

    -- where the gathered number is not 0, the words are no label
    pub all_misfit : (any ≡ 0 → ⊥) → eqb any 0 ≡ is_label l
    all_misfit e = ne_eqb any 0 e ∙ sym (is_false _ (λ t. subst T (sym (fit_all t) ∙ ne_eqb any 0 e) tt))

    -- where all words fit, they are a label exactly if the depth was not lessened
    pub all_deep : any ≡ 0 → eqb (get_or l 0 0) depth ≡ is_label l
    all_deep e = by_cases (dec_lt max_depth (get_or l 0 0))
        (λ h. ne_eqb (get_or l 0 0) depth (λ k. omega arith) ∙ sym (is_false _ (λ t. absurd (omega (arith, ((is_label_iff l).0 t).depth)))))
        (λ h.
        let whole : depth ≡ get_or l 0 0 = omega arith in
        eq-eqb (get_or l 0 0) depth (sym whole) ∙ sym (is_true _ (fits_label sixteen (omega arith) (λ i k.
        subst (λ d. word_fits d i (get_or l i 0) ≡ true) whole
        (subst (λ j. word_fits depth i (get_or l j 0) ≡ true) (zero-add i)
        (words_each (word_fits depth) l 0 label_size (sym all_fit ∙ eq-eqb any 0 e) i k))))))
