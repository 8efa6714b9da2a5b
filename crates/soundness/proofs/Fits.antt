-- The layout of a record: its depth, then the words of its label.
use Prim.Native.Nat.{ℕ, ◌+◌, ◌*◌, ◌<◌, ◌≤◌}
use mathlib.Core.Path.{◌≡◌, sym, ap₂, subst, ◌∙◌}
use mathlib.Core.Bool.{Bool, true, false, not}
use mathlib.Core.List.{List}
use native.Mathlib.Omega.{arith}
use lib.ListN.{length, get_or, take, drop, length-drop}
use lib.Seq.{get_or-take, length-take-le}
use mathlib.Core.Logic.{by_cases}
use native.Mathlib.Decide.{dec_lt}
use lib.Dec.{T}
use borrow.Author.Tests.{le-leb, leb-true, not-true, not-false}
use Rattle.basics.specs.Limits.{max_component, max_depth, label_size, record_size}
use Rattle.storage.specs.Store.{laid_out}
use Rattle.basics.proofs.Tests.{is_true, is_false}
use Rattle.labels.proofs.Steps.{passed}
use Rattle.records.specs.Records.{record_at}
use Rattle.records.proofs.Parts.{record_word, record_depth}
use Rattle.label_words.specs.Words.{word_fits, words_fit}
use Rattle.label_words.proofs.Words.{word_used, words_each, words_all}
use Rattle.label_words.proofs.Fits.{fits_label, label_fits}
use Rattle.label_padding.specs.Padding.{rest_fits}
use Rattle.label_padding.proofs.Padding.{rest_of, fit_of_rest}
use Rattle.record_rules.specs.Rules.{Laid, depth_fits}
use Rattle.record_rules.proofs.Depths.{fitting_depth}

-- where `depth_fits` passes, the depth fits
pub found_fits : (r depth : ℕ) {b : Bool} → b ≡ depth_fits r depth → not b ≡ false → depth_fits r depth ≡ true
found_fits r depth {b} is e = sym is ∙ not-false b e

-- where `depth_fits` passes, the depth is at most 15
pub found_depth : (r depth : ℕ) {b : Bool} → b ≡ depth_fits r depth → not b ≡ false → depth ≤ max_depth
found_depth r depth is e = fitting_depth r depth (found_fits r depth is e)

-- the first w words of record r fit its depth
pub record Fitting (ws : List ℕ) (r w : ℕ) : Type 0 where
  pub fit : (i : ℕ) → i < w → word_fits (get_or ws (r * record_size) 0) i (get_or ws (r * record_size + i) 0) ≡ true

module _ (ws : List ℕ) (r : ℕ) where
  -- one more used component fits the depth
  pub fit_on : (w : ℕ) → Fitting ws r w → w ≤ get_or ws (r * record_size) 0 → get_or ws (r * record_size + w) 0 ≤ max_component → Fitting ws r (w + 1)
  fit_on w f used small = record {
    fit = λ i h. by_cases (dec_lt i w) (f.fit i) (λ l.
        let here : i ≡ w = omega arith in
        rw here (sym (word_used _ w _ used) ∙ le-leb _ max_component small));
  }

  module _ (room : r * record_size + record_size ≤ length ws) where
    -- the words of the label of record r
    label : List ℕ
    label = take label_size (record_at r ws)

    -- word i of the label stands i words behind the record's start
    label_word : (i : ℕ) → i < label_size → get_or label i 0 ≡ get_or ws (r * record_size + i) 0
    unfolding label
    label_word i h = get_or-take label_size (record_at r ws) i 0 h ∙ record_word ws r i (omega arith)

    -- the depth of the label is the first word of the record
    label_depth : get_or label 0 0 ≡ get_or ws (r * record_size) 0
    unfolding label
    label_depth = get_or-take label_size (record_at r ws) 0 0 (omega arith) ∙ record_depth ws r

    -- the label has sixteen words
    label_words_lem : length label ≡ label_size
    unfolding label record_at
    label_words_lem = length-take-le label_size (record_at r ws) (omega (arith, length-take-le record_size (drop (r * record_size) ws) (omega (arith, length-drop (r * record_size) ws))))

    -- a word of the label fits its depth as the word of the slice does
    same_fit : (i : ℕ) → i < label_size → word_fits (get_or ws (r * record_size) 0) i (get_or ws (r * record_size + i) 0) ≡ word_fits (get_or label 0 0) i (get_or label i 0)
    same_fit i h = sym (ap₂ (λ d x. word_fits d i x) label_depth (label_word i h))

    -- every word of a record that is laid out as it must be fits its depth
    laid_fits : T (laid_out (record_at r ws)) → (i : ℕ) → i < label_size → word_fits (get_or ws (r * record_size) 0) i (get_or ws (r * record_size + i) 0) ≡ true
    unfolding laid_out label
    laid_fits t i h = same_fit i h ∙ label_fits label t i h

    -- a used component of a record that is laid out as it must be is at most 65,534
    pub laid_small : laid_out (record_at r ws) ≡ true → (i : ℕ) → i ≤ get_or ws (r * record_size) 0 → get_or ws (r * record_size) 0 ≤ max_depth →
        get_or ws (r * record_size + i) 0 ≤ max_component
    laid_small e i used deep = leb-true _ max_component (word_used _ i _ used ∙ laid_fits (passed e) i (omega arith))

    module _ {b : Bool} (is : b ≡ words_fit (rest_fits (get_or ws (r * record_size) 0)) ws (r * record_size) label_size) where
      -- where an unused component is not 0, the record is not laid out as it must be
      pub fit_rest : not b ≡ true → laid_out (record_at r ws) ≡ false
      fit_rest e = is_false _ (λ t. subst T (sym is ∙ not-true b e)
          (passed (words_all _ ws _ label_size (λ i h. rest_of _ i _ (laid_fits t i h)))))

      -- where all unused components are 0 and the words before them fit,
      -- the record is laid out, and has a depth that fits it
      pub fit_laid : not b ≡ false → {w : ℕ} → Fitting ws r w → get_or ws (r * record_size) 0 < w → depth_fits r (get_or ws (r * record_size) 0) ≡ true → Laid ws r
      unfolding laid_out label
      fit_laid e {w} f high fits =
          let deep = fitting_depth r _ fits in (
            fits,
            is_true _ (fits_label label label_words_lem (omega (arith, label_depth)) (λ i h. sym (same_fit i h) ∙ by_cases (dec_lt i w) (f.fit i)
                (λ l. fit_of_rest _ i _ (omega arith) (words_each _ ws _ label_size (sym is ∙ not-false b e) i h)))),
          )

  -- a used component that is larger than 65,534 breaks the layout
  pub fit_over : (count w : ℕ) → r < count → count * record_size ≤ length ws → w ≤ get_or ws (r * record_size) 0 → get_or ws (r * record_size) 0 ≤ max_depth →
      max_component < get_or ws (r * record_size + w) 0 → laid_out (record_at r ws) ≡ false
  fit_over count w h room used deep over = is_false _ (λ t. absurd (omega (arith, laid_small (omega arith) (is_true _ t) w used deep)))
