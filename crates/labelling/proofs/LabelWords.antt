-- Labels laid out in words and read back.
use mathlib.Core.Path.{◌≡◌, refl, sym, ap, ap₂, subst, ◌∙◌}
use mathlib.Core.Logic.Iff
use mathlib.Core.Logic.{◌↔◌}
use mathlib.Core.Bool.{Bool, ◌&&◌}
use mathlib.Core.List.{List, [], ◌∷◌, ◌++◌, append_assoc}
use Prim.Native.Nat.{ℕ, zero, suc, ◌+◌, ◌-◌, ◌≤◌, ◌<◌}
use native.Mathlib.Omega.{arith}
use lib.ListN.{length, get_or, take, drop, replicate, take-append-drop, length-append, length-replicate, length-take, length-drop}
use lib.Seq.{take_at, drop_at, take-take, length-take-le, get_or-take, get_or-drop}
use lib.Dec.{T, leb, eqb, leb→le, le→leb, eqb_refl}
use Rattle.basics.specs.Basics.{all}
use Rattle.basics.specs.Limits.{max_component, max_depth, label_size}
use Rattle.labelling.specs.Labels.{Label, is_component, label_of, label_words, is_label}
use Rattle.basics.proofs.Tests.{and_iff, eqb_alike, and_facts}
use Rattle.basics.proofs.Lists.{all_at}

-- a list passes the test of zeros exactly if it is zeros alone
zeros_iff : (l : List ℕ) → T (all (λ x. eqb x 0) l) ↔ (l ≡ replicate (length l) 0)
unfolding all
zeros_iff l = (are l, λ e. subst (λ m. T (all (λ x. eqb x 0) m)) (sym e) (pass (length l)))
  where
    are : (l : List ℕ) → T (all (λ x. eqb x 0) l) → l ≡ replicate (length l) 0
    are [] t = refl
    are (x ∷ l) t = let (a, b) = (and_iff (eqb x 0) (all (λ x. eqb x 0) l)).0 t in ap₂ ◌∷◌ ((eqb_alike x 0).0 a) (are l b)

    pass : (n : ℕ) → T (all (λ x. eqb x 0) (replicate n 0))
    pass zero = tt
    pass (suc n) = (and_iff (eqb 0 0) (all (λ x. eqb x 0) (replicate n 0))).1 (eqb_refl 0, pass n)

-- the four facts of refusal 15: sixteen words, depth at most 15, used components at most 65,534, unused ones 0
pub record IsLabel (ws : List ℕ) : Type 0 where
  pub sixteen : length ws ≡ label_size
  pub depth : get_or ws 0 0 ≤ max_depth
  pub used : (i : ℕ) → i < get_or ws 0 0 → get_or ws (suc i) 0 ≤ max_component
  pub unused : (i : ℕ) → get_or ws 0 0 < i → i < label_size → get_or ws i 0 ≡ 0

-- the test of a label tells four facts of its words
label_tests : (ws : List ℕ) → T (is_label ws) ↔
    ((length ws ≡ label_size) × (get_or ws 0 0 ≤ max_depth) × T (all is_component (label_of ws)) × T (all (λ x. eqb x 0) (drop (suc (get_or ws 0 0)) ws)))
unfolding is_label
label_tests ws =
    let sizes : Bool = eqb (length ws) label_size in
    let shallow : Bool = leb (get_or ws 0 0) max_depth in
    Iff.trans
    (and_facts (sizes && shallow && all is_component (label_of ws)) _
    (and_facts (sizes && shallow) _
    (and_facts sizes shallow (eqb_alike (length ws) label_size) (leb→le (get_or ws 0 0) max_depth, le→leb (get_or ws 0 0) max_depth)) Iff.rfl) Iff.rfl)
    (λ h. (h.0.0.0, h.0.0.1, h.0.1, h.1), λ p. (((p.0, p.1), p.2), p.3))

-- words are a label exactly if the four facts of refusal 15 hold
pub is_label_iff : (ws : List ℕ) → T (is_label ws) ↔ IsLabel ws
unfolding label_of is_component
is_label_iff [] = (λ h. absurd (omega (arith, ((label_tests []).0 h).0)), λ h. absurd (omega (arith, h.sixteen)))
is_label_iff (d ∷ ws) = (
  λ h.
      let (n, deep, used, unused) = (label_tests (d ∷ ws)).0 h in
      let long : length (take d ws) ≡ d = length-take-le d ws (omega arith) in
      record {
        sixteen = n;
        depth = deep;
        used = λ i p. subst (λ x. x ≤ max_component) (get_or-take d ws i 0 p) (leb→le _ max_component ((all_at is_component 0 (take d ws)).0 used i (omega arith)));
        unused = λ i p q. zero_at i p ((all_at (λ x. eqb x 0) 0 (drop d ws)).0 unused (i - suc d) (omega (arith, length-drop d ws)));
      },
  λ h.
      let long : length (take d ws) ≡ d = length-take-le d ws (omega (arith, h.sixteen, h.depth)) in
      (label_tests (d ∷ ws)).1 (
        h.sixteen,
        h.depth,
        (all_at is_component 0 (take d ws)).1 (λ i p.
            subst (λ x. T (leb x max_component)) (sym (get_or-take d ws i 0 (omega arith))) (le→leb _ max_component (h.used i (omega arith)))),
        (all_at (λ x. eqb x 0) 0 (drop d ws)).1 (λ i p.
            (eqb_alike _ 0).1 (get_or-drop d ws i 0 ∙ h.unused (suc (d + i)) (omega arith) (omega (arith, h.sixteen, length-drop d ws)))),
      ),
)
  where
    zero_at : (i : ℕ) → d < i → T (eqb (get_or (drop d ws) (i - suc d) 0) 0) → get_or (d ∷ ws) i 0 ≡ 0
    zero_at zero p t = absurd (omega arith)
    zero_at (suc i) p t =
        let e : d + (suc i - suc d) ≡ i = omega arith in
        ap (λ j. get_or ws j 0) (sym e) ∙ sym (get_or-drop d ws (suc i - suc d) 0) ∙ (eqb_alike _ 0).0 t

-- a label that refusal 15 lets pass
pub record GoodLabel (l : Label) : Type 0 where
  pub shallow : length l ≤ max_depth
  pub small : T (all is_component l)

-- the words of a label of at most 15 components are sixteen
pub length-label_words : (l : Label) → length l ≤ max_depth → length (label_words l) ≡ label_size
unfolding label_words
length-label_words l h = simp (length-append, length-replicate) (omega arith)

-- the words of a label, with more words behind them, hold the label
pub label_of_words : (l : Label) (t : List ℕ) → label_of (label_words l ++ t) ≡ l
unfolding label_words label_of
label_of_words l t =
    ap (take (length l)) (append_assoc l (replicate (max_depth - length l) 0) t) ∙ take_at l (replicate (max_depth - length l) 0 ++ t) (length l) refl

-- the words of a label hold that label
pub label_of-label_words : (l : Label) → label_of (label_words l) ≡ l
unfolding label_words label_of
label_of-label_words l = take_at l (replicate (max_depth - length l) 0) (length l) refl

-- the words of a good label are a label
pub label_words_good : (l : Label) → GoodLabel l → T (is_label (label_words l))
unfolding label_words
label_words_good l good =
    (label_tests (label_words l)).1 (
      length-label_words l good.shallow,
      good.shallow,
      rw (label_of-label_words l) good.small,
      rw (drop_at l (replicate (max_depth - length l) 0) (length l) refl)
          ((zeros_iff (replicate (max_depth - length l) 0)).1 (ap (λ n. replicate n 0) (sym (length-replicate (max_depth - length l) 0)))),
    )

-- the label that good words hold is good
pub label_of_good : (ws : List ℕ) → T (is_label ws) → GoodLabel (label_of ws)
label_of_good ws h = let (n, deep, used, unused) = (label_tests ws).0 h in record { shallow = short ws deep; small = used }
  where
    short : (ws : List ℕ) → get_or ws 0 0 ≤ max_depth → length (label_of ws) ≤ max_depth
    short ws deep = unfold label_of in omega (arith, length-take (get_or ws 0 0) (drop 1 ws))

-- words that are a label are the words of the label they hold
pub label_words-label_of : (ws : List ℕ) → T (is_label ws) → label_words (label_of ws) ≡ ws
unfolding label_words label_of
label_words-label_of [] h = absurd (omega (arith, ((label_tests []).0 h).0))
label_words-label_of (d ∷ ws) h =
    let (n, deep, used, unused) = (label_tests (d ∷ ws)).0 h in
    let long : length (take d ws) ≡ d = length-take-le d ws (omega arith) in
    let left : length (drop d ws) ≡ max_depth - d = length-drop d ws ∙ (let e : length ws - d ≡ max_depth - d = omega arith in e) in
    let z : replicate (max_depth - d) 0 ≡ drop d ws = ap (λ m. replicate m 0) (sym left) ∙ sym ((zeros_iff (drop d ws)).0 unused) in
    rw long (ap (◌∷◌ d) (ap (λ m. take d ws ++ m) z ∙ take-append-drop d ws))

-- the first sixteen words of a record hold its label
pub label_of-take : (ws : List ℕ) → get_or ws 0 0 ≤ max_depth → label_of (take label_size ws) ≡ label_of ws
unfolding label_of
label_of-take [] h = refl
label_of-take (d ∷ ws) h = take-take d max_depth ws h
