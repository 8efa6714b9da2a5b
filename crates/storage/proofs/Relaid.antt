-- Any sound store, from a run or not: its words are those of its elements,
-- so what a call lays out anew it leaves as it was.
use mathlib.Core.Path.{◌≡◌, refl, sym, ap, ap₂, subst, ◌∙◌}
use mathlib.Core.Bool.{Bool, true, false}
use mathlib.Core.List.{List, [], ◌∷◌, ◌++◌}
use mathlib.Core.Option.{Option, none, some, some-ne-none}
use Prim.Native.Nat.{ℕ, zero, suc, ◌+◌, ◌-◌, ◌*◌, ◌≤◌}
use native.Mathlib.Omega.{arith}
use lib.ListN.{length, get_or, take, drop, take-append-drop, length-drop}
use lib.Seq.{take-add, length-take-le, get_or-take, get_or-drop}
use lib.Dec.{T, ltb, eqb}
use Rattle.basics.specs.Basics.{elim?, joined}
use Rattle.basics.specs.Limits.{max_depth, label_size, record_size}
use Rattle.naming.specs.Names.{Clues}
use Rattle.labelling.specs.Labels.{label_words}
use Rattle.storage.specs.Store.{Element, Rule, element_words, store_words, read_element, records, elements, test, laid_out, broken, fault}
use Rattle.basics.proofs.Tests.{and_iff}
use Rattle.labelling.proofs.LabelWords.{is_label_iff, label_of-take, label_words-label_of}

-- a list of length 4 is the list of its four members
four : (t : List ℕ) → length t ≡ 4 → get_or t 0 0 ∷ get_or t 1 0 ∷ get_or t 2 0 ∷ get_or t 3 0 ∷ [] ≡ t
four [] h = absurd (omega arith)
four (a ∷ []) h = absurd (omega arith)
four (a ∷ b ∷ []) h = absurd (omega arith)
four (a ∷ b ∷ c ∷ []) h = absurd (omega arith)
four (a ∷ b ∷ c ∷ d ∷ []) h = refl
four (a ∷ b ∷ c ∷ d ∷ e ∷ t) h = absurd (omega arith)

-- the last four words of a record are what follows its label's words
last_four : (r : List ℕ) → length r ≡ record_size → get_or r 16 0 ∷ get_or r 17 0 ∷ get_or r 18 0 ∷ get_or r 19 0 ∷ [] ≡ drop label_size r
last_four r h = sym at ∙ four (drop label_size r) (length-drop label_size r ∙ ap (λ n. n - label_size) h)
  where
    at : get_or (drop label_size r) 0 0 ∷ get_or (drop label_size r) 1 0 ∷ get_or (drop label_size r) 2 0 ∷ get_or (drop label_size r) 3 0 ∷ [] ≡
        get_or r 16 0 ∷ get_or r 17 0 ∷ get_or r 18 0 ∷ get_or r 19 0 ∷ []
    at i = get_or-drop label_size r 0 0 i ∷ get_or-drop label_size r 1 0 i ∷ get_or-drop label_size r 2 0 i ∷ get_or-drop label_size r 3 0 i ∷ []

-- a record that is laid out as a label has a depth of at most 15
pub laid_depth : (r : List ℕ) → T (laid_out r) → get_or r 0 0 ≤ max_depth
unfolding laid_out
laid_depth r t = subst (λ n. n ≤ max_depth) (get_or-take label_size r 0 0 (omega arith)) ((is_label_iff (take label_size r)).0 t).depth

-- the first sixteen words of a record that is laid out as a label are those of its label
pub label_back : (r : List ℕ) → T (laid_out r) → label_words (read_element r).label ≡ take label_size r
unfolding read_element laid_out
label_back r t = ap label_words (sym (label_of-take r (laid_depth r t))) ∙ label_words-label_of (take label_size r) t

-- all words of a record that is laid out as a label are those of the element read from it
words_back : (r : List ℕ) → length r ≡ record_size → T (laid_out r) → element_words (read_element r) ≡ r
unfolding element_words read_element
words_back r h t = ap₂ ◌++◌ (label_back r t) (last_four r h) ∙ take-append-drop label_size r

-- where a test and the rules after it break nothing, the test has passed
pub test_none : (b : Bool) (r : Rule) (o : Option Rule) → test b r o ≡ none → T b
unfolding test
test_none true r o e = tt
test_none false r o e = absurd (some-ne-none r e)

-- where a test and the rules after it break nothing, the rules after it break nothing
pub test_rest : (b : Bool) (r : Rule) (o : Option Rule) → test b r o ≡ none → o ≡ none
unfolding test
test_rest true r o e = e
test_rest false r o e = absurd (some-ne-none r e)

-- a test that passes leaves the decision to the rules after it
pub test_passes : (b : Bool) (r : Rule) (o : Option Rule) → T b → test b r o ≡ o
unfolding test
test_passes true r o t = refl
test_passes false r o t = absurd t

-- a sound record is laid out as a label
pub sound_laid : (cl : Clues) (done : List Element) (r : List ℕ) → broken cl done r ≡ none → T (laid_out r)
unfolding broken
sound_laid cl [] r e = ((and_iff (laid_out r) (eqb (get_or r 0 0) 0)).0 (test_none _ _ _ e)).0
sound_laid cl (p ∷ done) r e = ((and_iff (laid_out r) (ltb 0 (get_or r 0 0))).0 (test_none _ _ _ e)).0

-- the words of a sound store are those of its elements
pub relaid : (cl : Clues) (n : ℕ) (done : List Element) (ws : List ℕ) →
    record_size * n ≤ length ws → fault cl done (records n ws) ≡ none → store_words (elements n ws) ≡ take (record_size * n) ws
unfolding fault records elements store_words joined elim?
relaid cl zero done ws h e = refl
relaid cl (suc n) done ws h e = go (broken cl done (take record_size ws)) refl e
    (relaid cl n (read_element (take record_size ws) ∷ done) (drop record_size ws) (omega (arith, length-drop record_size ws)))
  where
    go : (o : Option Rule) → broken cl done (take record_size ws) ≡ o →
        elim? o (fault cl (read_element (take record_size ws) ∷ done) (records n (drop record_size ws))) (λ b. some (record { place = length done; rule = b })) ≡ none →
        (fault cl (read_element (take record_size ws) ∷ done) (records n (drop record_size ws)) ≡ none →
        store_words (elements n (drop record_size ws)) ≡ take (record_size * n) (drop record_size ws)) →
        element_words (read_element (take record_size ws)) ++ store_words (elements n (drop record_size ws)) ≡ take (record_size * suc n) ws
    go none f e ih =
        let d : record_size + record_size * n ≡ record_size * suc n = omega arith in
        ap₂ ◌++◌ (words_back (take record_size ws) (length-take-le record_size ws (omega arith)) (sound_laid cl done (take record_size ws) f)) (ih e) ∙
        sym (take-add record_size (record_size * n) ws) ∙ ap (λ m. take m ws) d
    go (some r) f e ih = absurd (some-ne-none _ e)
