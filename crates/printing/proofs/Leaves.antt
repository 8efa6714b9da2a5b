-- The streams of the leaves of a twig: laid out in one buffer, in two parts.
use mathlib.Core.Path.{◌≡◌, refl, sym, ap, ◌∙◌}
use mathlib.Core.Bool.{Bool, true, false}
use mathlib.Core.List.{List, [], ◌∷◌, ◌++◌, map, append-nil, append_assoc}
use mathlib.Core.Option.{Option, none, some}
use Prim.Native.Nat.{ℕ, ◌+◌, ◌*◌, ◌<◌, ◌≤◌}
use native.Mathlib.Numerals.{add-one}
use native.Mathlib.Omega.{arith}
use lib.ListN.{length, get_or, take, drop, length-append, take-append-drop}
use lib.Seq.{take-suc}
use Rattle.basics.proofs.Lists.{joined_append}
use Rattle.basics.specs.Basics.{◌∈◌, elim?, joined}
use Rattle.basics.specs.Limits.{max_depth, label_size}
use Rattle.labelling.specs.Labels.{Label, label_words}
use Rattle.patterns.specs.Twigs.{Twig, node_at, is_leaf, wanted, leaf_names}
use Rattle.embeddings.specs.Matches.{labels_words}
use Rattle.embeddings.proofs.MatchWords.{length-labels_words}
use Rattle.match_calls.proofs.StreamChecks.{length_wanted}
use Rattle.cut_calls.proofs.StreamWords.{laid}
use Rattle.twig_leaves.proofs.Leaves.{wanted_at, wanted_from}

-- the leaves of two lists of nodes, one behind the other
leaf_names-append : (rs ss : List (Option ℕ)) → leaf_names (rs ++ ss) ≡ leaf_names rs ++ leaf_names ss
unfolding leaf_names
leaf_names-append [] ss = refl
leaf_names-append (none ∷ rs) ss = leaf_names-append rs ss
leaf_names-append (some want ∷ rs) ss = ap (◌∷◌ want) (leaf_names-append rs ss)

-- the leaves before node q
abbrev pub leaves_to : Twig → ℕ → List ℕ
leaves_to t q = leaf_names (take q (wanted t))

module _ (t : Twig) (q : ℕ) (inside : q < length t) {b : Bool} (is : b ≡ is_leaf t q) where
  -- the nodes up to q are those before it and node q
  next : take (q + 1) (wanted t) ≡ take q (wanted t) ++ (get_or (wanted t) q none ∷ [])
  next = rw add-one (take-suc (wanted t) q none (omega (arith, length_wanted t)))

  -- the leaves up to a leaf are those before it and the leaf
  pub leaves_leaf : b ≡ true → leaves_to t (q + 1) ≡ leaves_to t q ++ ((node_at t q).name ∷ [])
  unfolding leaf_names
  leaves_leaf e = ap leaf_names next ∙ leaf_names-append (take q (wanted t)) _ ∙ rw (wanted_at t q inside, ← is, e)

  -- the leaves up to an inner node are those before it
  pub leaves_inner : b ≡ false → leaves_to t (q + 1) ≡ leaves_to t q
  unfolding leaf_names
  leaves_inner e = ap leaf_names next ∙ leaf_names-append (take q (wanted t)) _ ∙ rw (wanted_at t q inside, ← is, e) (append-nil (leaves_to t q))

  -- the leaves of a twig are those before a leaf, the leaf, and others
  pub leaves_split : b ≡ true → (others : List ℕ) × (leaf_names (wanted t) ≡ leaves_to t q ++ ((node_at t q).name ∷ others))
  unfolding leaf_names
  leaves_split e = (
    leaf_names (drop (q + 1) (wanted t)),
    ap leaf_names (sym (take-append-drop q (wanted t))) ∙ leaf_names-append (take q (wanted t)) (drop q (wanted t)) ∙
        rw (wanted_from t q inside is, e),
  )

-- the words of labels in two lists, one behind the other
labels_words-append : (a b : List Label) → labels_words (a ++ b) ≡ labels_words a ++ labels_words b
unfolding labels_words
labels_words-append = joined_append label_words

module _ (s : ℕ → List Label) where
  -- the streams of names in two lists, laid out one behind the other
  pub laid_append : (xs ys : List ℕ) → laid s (xs ++ ys) ≡ laid s xs ++ laid s ys
  laid_append = joined_append (λ want. labels_words (s want))

  -- the labels of all streams, in words, are the streams laid out
  pub labels_words_laid : (rs : List (Option ℕ)) → labels_words (joined (map (λ r. elim? r [] s) rs)) ≡ laid s (leaf_names rs)
  unfolding joined leaf_names elim? labels_words
  labels_words_laid [] = refl
  labels_words_laid (none ∷ rs) = labels_words_laid rs
  labels_words_laid (some want ∷ rs) =
      labels_words-append (s want) (joined (map (λ r. elim? r [] s) rs)) ∙ ap (λ ws. labels_words (s want) ++ ws) (labels_words_laid rs)

  -- streams laid out have sixteen words for each label
  pub laid_size : ((want : ℕ) (l : Label) → l ∈ s want → length l ≤ max_depth) → (rs : List (Option ℕ)) →
      length (laid s (leaf_names rs)) ≡ label_size * length (joined (map (λ r. elim? r [] s) rs))
  unfolding joined leaf_names elim?
  laid_size short [] = refl
  laid_size short (none ∷ rs) = laid_size short rs
  laid_size short (some want ∷ rs) =
      omega (
        arith,
        length-append (labels_words (s want)) (laid s (leaf_names rs)),
        length-append (s want) (joined (map (λ r. elim? r [] s) rs)),
        length-labels_words (s want) (short want),
        laid_size short rs,
      )
