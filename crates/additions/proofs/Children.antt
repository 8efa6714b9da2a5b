-- A child's label and record: the words of its parent's label copied, the depth and one component written.
use Prim.Native.Nat.{ℕ, suc, ◌+◌, ◌-◌, ◌<◌}
use mathlib.Core.Path.{◌≡◌, sym, ap, ap₂, ◌∙◌}
use mathlib.Core.Bool.{true}
use mathlib.Core.List.{List, [], ◌∷◌, ◌++◌, append-nil, append_assoc}
use native.Mathlib.Omega.{arith}
use native.Mathlib.Numerals.{add-one}
use lib.ListN.{length, get_or, drop, set, replicate, length-append}
use lib.Seq.{set-append_seam}
use Rattle.basics.specs.Basics.{over}
use Rattle.basics.specs.Limits.{max_depth, label_size}
use Rattle.labelling.specs.Labels.{Label, label_of, label_words, is_label}
use Rattle.storage.specs.Store.{element_words}
use Rattle.labelling.proofs.LabelWords.{is_label_iff, label_words-label_of}
use Rattle.changes.specs.Answers.{root_element}

module _ (ws : List ℕ) (good : is_label ws ≡ true) where
  -- a label has sixteen words
  pub label_sixteen : length ws ≡ label_size
  label_sixteen = ((is_label_iff ws).0 (rw good tt)).sixteen

  -- words that are a label are those of the label they hold
  own_words : label_words (label_of ws) ≡ ws
  own_words = label_words-label_of ws (rw good tt)

  -- the first word of a label is its depth
  pub label_depth : get_or ws 0 0 ≡ length (label_of ws)
  unfolding label_words
  label_depth = ap (λ s. get_or s 0 0) (sym own_words)

-- a component written behind a label, and the depth raised, give the child's label
child_words : (l : Label) (x : ℕ) → length l < max_depth → set (set (label_words l) 0 (length l + 1)) (length l + 1) x ≡ label_words (l ++ (x ∷ []))
unfolding label_words
child_words l x h =
    let n : length (l ++ (x ∷ [])) ≡ length l + 1 = length-append l (x ∷ []) in
    let z : List ℕ = replicate (max_depth - (length l + 1)) 0 in
    let e : max_depth - length l ≡ suc (max_depth - (length l + 1)) = omega arith in
    let f : set (l ++ replicate (max_depth - length l) 0) (length l) x ≡ l ++ (x ∷ z) =
    ap (λ k. set (l ++ replicate k 0) (length l) x) e ∙ set-append_seam l 0 z x in
    ap (λ k. set ((length l + 1) ∷ (l ++ replicate (max_depth - length l) 0)) k x) (add-one (length l)) ∙
    ap₂ ◌∷◌ (sym n) (f ∙ sym (append_assoc l (x ∷ []) z) ∙ ap (λ k. l ++ (x ∷ []) ++ replicate (max_depth - k) 0) (sym n))

-- the parent's words copied, the depth and the component written, are the child's label
pub label_child : (ws : List ℕ) (x : ℕ) → is_label ws ≡ true → get_or ws 0 0 < max_depth → {to : List ℕ} → to ≡ over ws (replicate label_size 0) →
    set (set to 0 (get_or ws 0 0 + 1)) (get_or ws 0 0 + 1) x ≡ label_words (label_of ws ++ (x ∷ []))
unfolding over
label_child ws x good h p =
    let depth = label_depth ws good in
    let same : ws ++ drop (length ws) (replicate label_size 0) ≡ label_words (label_of ws) =
    ap (λ n. ws ++ drop n (replicate label_size 0)) (label_sixteen ws good) ∙ append-nil ws ∙ sym (own_words ws good) in
    ap₂ (λ s n. set (set s 0 (n + 1)) (n + 1) x) (p ∙ same) depth ∙ child_words (label_of ws) x (omega arith)

-- the words of a label copied over those of the root's record give the child's record
pub record_child : (label : List ℕ) (name p0 p1 : ℕ) → length label ≡ label_size → {rec to : List ℕ} → rec ≡ element_words (root_element name p0 p1) →
    to ≡ over label rec → to ≡ label ++ (name ∷ 0 ∷ p0 ∷ p1 ∷ [])
unfolding element_words label_words over
record_child label name p0 p1 h e p = p ∙ ap₂ (λ n r. label ++ drop n r) h e
