-- The full list of matches over elements that form a tree: strictly ascending, and the embeddings into the tree.
use mathlib.Core.Path.{sym, subst}
use mathlib.Core.Logic.{◌↔◌, ⊎_elim}
use mathlib.Core.List.{List, []}
use Prim.Native.Nat.{ℕ, ◌<◌}
use lib.ListN.{length, get_or}
use lib.Dec.{T, ltb, lt→ltb, not_T}
use Rattle.basics.specs.Basics.{◌∈◌, elim?, Ascending}
use Rattle.naming.specs.Names.{Clues}
use Rattle.labelling.specs.Labels.{within}
use Rattle.patterns.specs.Twigs.{Twig, GoodTwig, node_at, is_parent, is_leaf}
use Rattle.embeddings.specs.Matches.{Match, IsMatch, asks, fits, earlier}
use Rattle.storage.specs.Store.{Element}
use Rattle.cut_calls.specs.Cutting.{streams, full_list}
use Rattle.model.specs.Trees.{Embedding}
use Rattle.basics.proofs.Tests.{and_iff, decide}
use Rattle.embeddings.proofs.Matches.{leaf_below, matches_ascending, matches_iff}
use Rattle.storage.proofs.SoundStore.{SoundElements}
use Rattle.cut_calls.proofs.AskedLabels.{Asked, streams_asked}
use Rattle.cut_calls.proofs.StreamWords.{streams_sound}
use Rattle.model.proofs.Trees.{Rooted, ancestor}

module _ {cl : Clues} {root : ℕ} {es : List Element} (sound : SoundElements cl root es) (t : Twig) where
  -- the full list is strictly ascending
  pub full_ascending : Ascending earlier (full_list cl root t es)
  unfolding full_list
  full_ascending = matches_ascending cl root t (streams t es) (streams_sound cl root t es sound).each_leaf

  module _ (rooted : Rooted es) (good : GoodTwig t) (m : Match) where
    -- the label of an element fits exactly the names that ask for the element's name
    fits_named : (want : ℕ) (e : Element) → e ∈ es → T (fits cl root want e.label) ↔ T (asks want e.name)
    unfolding fits elim?
    fits_named want e s = rw (sound.named e s) (λ h. h, λ h. h)

    -- an embedding is a match
    embedding_matches : Embedding t es m → IsMatch cl root t (streams t es) m
    embedding_matches h = record {
      whole = h.whole;
      hung = h.hung;
      leaf = λ i p leaf. (streams_asked t es i (get_or m i [])).1 ((and_iff (ltb i (length t)) (is_leaf t i)).1 (lt→ltb i (length t) p, leaf), h.placed i p);
      inner = λ i p inner.
          let (e, s, a, f) = h.placed i p in
          subst (λ l. T (fits cl root (node_at t i).name l)) f ((fits_named (node_at t i).name e s).1 a);
    }

    -- the label of a match at a leaf is that of an element whose name the leaf asks for
    leaf_asked : IsMatch cl root t (streams t es) m → (i : ℕ) → i < length t → T (is_leaf t i) → Asked (node_at t i).name es (get_or m i [])
    leaf_asked h i p leaf = ((streams_asked t es i (get_or m i [])).0 (h.leaf i p leaf)).1

    -- The label of a match at an inner node is that of an element whose name the node asks for:
    -- a leaf's label goes on from it, and every label above an element's is an element's.
    inner_asked : IsMatch cl root t (streams t es) m → (i : ℕ) → i < length t → T (is_parent t i) → Asked (node_at t i).name es (get_or m i [])
    inner_asked h i p inner =
        let (k, q, leaf, w) = leaf_below t good m h.hung i p in
        let (low, s, a, f) = leaf_asked h k q leaf in
        let (e, stands, g) = ancestor es rooted low s (get_or m i []) (subst (λ l. T (within (get_or m i []) l)) (sym f) w) in
        (e, stands, (fits_named (node_at t i).name e stands).0 (subst (λ l. T (fits cl root (node_at t i).name l)) (sym g) (h.inner i p inner)), g)

    -- a match is an embedding
    match_embeds : IsMatch cl root t (streams t es) m → Embedding t es m
    unfolding is_leaf
    match_embeds h = record {
      whole = h.whole;
      placed = λ i p. ⊎_elim (inner_asked h i p) (λ n. leaf_asked h i p (not_T (is_parent t i) n)) (decide (is_parent t i));
      hung = h.hung;
    }

    -- the full list holds the embeddings into the tree and nothing else
    pub full_embeddings : m ∈ full_list cl root t es ↔ Embedding t es m
    unfolding full_list
    full_embeddings =
        let k = matches_iff cl root t (streams t es) good m in
        (λ h. match_embeds (k.0 h), λ h. k.1 (embedding_matches h))
