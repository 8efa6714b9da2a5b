-- The streams of leaves, one after the other in a buffer, and their counts in a list: one stream more.
use Prim.Native.Nat.{ℕ, ◌+◌, ◌-◌, ◌*◌, ◌<◌, ◌≤◌}
use mathlib.Core.Path.{◌≡◌, refl, sym, ap, ◌∙◌}
use mathlib.Core.List.{List, [], ◌∷◌, ◌++◌, append-nil, map-append}
use native.Mathlib.Omega.{arith}
use lib.ListN.{length, take, drop, set, length-append, length-map, length-set}
use Rattle.basics.specs.Basics.{over, joined}
use Rattle.basics.specs.Limits.{label_size}
use Rattle.labelling.specs.Labels.{Label}
use Rattle.patterns.specs.Twigs.{Twig, leaf_names}
use Rattle.embeddings.specs.Matches.{labels_words}
use Rattle.basics.proofs.Outputs.{length_over}
use Rattle.cut_calls.proofs.StreamWords.{counted, laid}
use Rattle.words.proofs.Words.{over_middle}
use Rattle.words.specs.Writing.{written}
use Rattle.words.proofs.Writing.{written_over, written_after, written_one}
use Rattle.printing.proofs.Leaves.{leaves_to, laid_append}

-- the streams of some leaves stand in a buffer and their counts in a list
pub record Poured (s : ℕ → List Label) (names : List ℕ) (leaves labels : ℕ) (counts₀ counts buffer₀ buffer : List ℕ) : Type 0 where
  pub leaf : leaves ≡ length names
  pub size : label_size * labels ≡ length (laid s names)
  pub room : label_size * labels ≤ length buffer₀
  pub in_counts : counts ≡ over (counted s names) counts₀
  pub in_buffer_lem : buffer ≡ over (laid s names) buffer₀
  pub kept : length counts ≡ length counts₀
  pub sized : length buffer ≡ length buffer₀

-- words written behind others that stand at the start
after : (a b out₀ : List ℕ) {out : List ℕ} → out ≡ over a out₀ → length a + length b ≤ length out₀ → written (length a) b out ≡ over (a ++ b) out₀
after a b out₀ e room =
    let z : 0 + length a ≡ length a = omega arith in
    rw (e, ← written_over a out₀, ← written_over (a ++ b) out₀) (rw z at (written_after 0 a b out₀ (omega arith)))

module _ (s : ℕ → List Label) where
  -- before the first leaf no stream is poured
  pub poured_none : (t : Twig) (counts buffer : List ℕ) → Poured s (leaves_to t 0) 0 0 counts counts buffer buffer
  unfolding leaf_names joined over
  poured_none t counts buffer = record { leaf = refl; size = refl; room = omega arith; in_counts = refl; in_buffer_lem = refl; kept = refl; sized = refl }

  -- one stream more, that of the name `want`, for which the buffer has room
  module _ (names : List ℕ) (leaves labels : ℕ) (counts₀ counts buffer₀ buffer : List ℕ) (p : Poured s names leaves labels counts₀ counts buffer₀ buffer)
      (want : ℕ) (long : length (labels_words (s want)) ≡ label_size * length (s want)) (room : label_size * (labels + length (s want)) ≤ length buffer₀) where
    -- the count of the next stream stands behind those before it
    next_counts : leaves < length counts → set counts leaves (length (s want)) ≡ over (counted s (names ++ (want ∷ []))) counts₀
    next_counts h =
        let long : length (counted s names) ≡ leaves = length-map names (λ want. length (s want)) ∙ sym p.leaf in
        written_one leaves (length (s want)) counts (omega arith) ∙
        rw (map-append, ← long) (after (counted s names) (length (s want) ∷ []) counts₀ p.in_counts (omega (arith, p.kept)))

    -- the words of the next stream stand behind those before it
    next_words : {left : List ℕ} → left ≡ over (labels_words (s want)) (take (length buffer - labels * label_size) (drop (labels * label_size) buffer)) →
        take (labels * label_size) buffer ++ (left ++ drop (length buffer - labels * label_size) (drop (labels * label_size) buffer)) ≡
        over (laid s (names ++ (want ∷ []))) buffer₀
    unfolding written joined
    next_words e =
        let z : labels * label_size ≡ length (laid s names) = omega (arith, p.size) in
        over_middle buffer (labels_words (s want)) (labels * label_size) (labels * label_size + length (labels_words (s want))) refl e ∙
        rw (z, laid_append s names (want ∷ []), append-nil)
        (after (laid s names) (labels_words (s want)) buffer₀ p.in_buffer_lem (omega (arith, p.size)))

    -- the labels counted with those of the next stream take the words of all streams
    next_size : label_size * (labels + length (s want)) ≡ length (laid s (names ++ (want ∷ [])))
    unfolding joined
    next_size =
        rw (laid_append s names (want ∷ []), append-nil)
        (omega (arith, length-append (laid s names) (labels_words (s want)), p.size))

    -- with the next stream, its words and its count stand behind those before it
    pub poured_next : leaves < length counts → {left : List ℕ} →
        left ≡ over (labels_words (s want)) (take (length buffer - labels * label_size) (drop (labels * label_size) buffer)) →
        Poured s (names ++ (want ∷ [])) (leaves + 1) (labels + length (s want)) counts₀ (set counts leaves (length (s want))) buffer₀
        (take (labels * label_size) buffer ++ (left ++ drop (length buffer - labels * label_size) (drop (labels * label_size) buffer)))
    poured_next h e = record {
      leaf = omega (arith, length-append names (want ∷ []), p.leaf);
      size = next_size;
      room = room;
      in_counts = next_counts h;
      in_buffer_lem = next_words e;
      kept = length-set counts leaves (length (s want)) ∙ p.kept;
      sized = ap length (next_words e) ∙ length_over (laid s (names ++ (want ∷ []))) buffer₀ (omega (arith, next_size));
    }
