-- The loop that cuts the streams of a twig's leaves: what holds before each node, and the answers.
use Prim.Native.Nat.{ℕ, ◌+◌, ◌-◌, ◌*◌, ◌<◌, ◌≤◌}
use mathlib.Core.Path.{◌≡◌, refl, sym, ap, ◌∙◌}
use mathlib.Core.Bool.{Bool, true, false}
use mathlib.Core.List.{List, [], ◌∷◌, ◌++◌}
use mathlib.Core.Option.{none, some-ne-none}
use native.Mathlib.Omega.{arith}
use mir.Syntax.{w64}
use mir.Val.{Fits}
use borrow.Author.Rules.{Fits-under}
use lib.ListN.{length, take, drop, set, length-append, length-drop}
use lib.Seq.{take_all}
use Rattle.naming.specs.Names.{Table}
use Rattle.basics.specs.Basics.{over, joined}
use Rattle.basics.specs.Limits.{max_records, label_size}
use Rattle.basics.specs.Refusals.{refuse, short_output}
use Rattle.patterns.specs.Twigs.{node_at, read_twig, is_leaf, wanted, leaf_names, name_check, twig_check}
use Rattle.embeddings.specs.Matches.{labels_words}
use Rattle.storage.specs.Store.{elements}
use Rattle.cut_calls.specs.Cutting as spec
use Rattle.basics.proofs.Scans.{tail_is}
use Rattle.patterns.proofs.TwigBytes.{twig_check_iff, name_check_iff, read_twig_at, length-read_twig}
use Rattle.storage.proofs.Sizes.{size_iff, length_elements_read}
use Rattle.cut_calls.proofs.StreamWords.{laid, length_stream}
use Rattle.match_calls.proofs.StreamChecks.{length_wanted}
use Rattle.embeddings.proofs.MatchWords.{length-labels_words}
use Rattle.refusals.specs.Answers.{verdict_of, filled, refused_by, listing_of}
use Rattle.refusals.specs.declared.Listing.{Listing}
use Rattle.refusals.specs.declared.Refusal as declared
use Rattle.refusals.specs.declared.Verdict.TheVariants as verdict
use Rattle.refusals.proofs.Verdicts.{passed_none}
use Rattle.twigs.specs.declared.Node.{Node}
use Rattle.twigs.proofs.Nodes.{twig_few}
use Rattle.twigs.specs.Answers.{node_of}
use Rattle.printing.specs.Streams.{StoreAccepted, StreamsAnswered, all_labels}
use Rattle.printing.proofs.Leaves.{leaves_to, leaves_leaf, leaves_inner, leaves_split, laid_append, labels_words_laid, laid_size}
use Rattle.basics.proofs.Outputs.{room_iff}
use Rattle.printing.proofs.Rooms.{room_failed}
use Rattle.printing.proofs.Cuts.{stream_in, stream_short, cut_over, cut_fitted, cut_done}
use Rattle.printing.proofs.Buffers.{Poured, poured_none, poured_next}

-- a name of an accepted twig may be asked for
name_asked_lem : (twig : List ℕ) → twig_check twig ≡ none → (q : ℕ) → q < length (read_twig twig) → name_check (node_at (read_twig twig) q).name 0 ≡ none
name_asked_lem twig accepted q h =
    let inside : 4 * q + 3 < length twig = omega (arith, length-read_twig twig) in
    let facts = ((twig_check_iff twig).0 accepted).nodes q (omega arith) in
    (name_check_iff _ 0).1 (rw (read_twig_at twig q inside) facts.name)

-- the words of all streams are the streams laid out
pub all_laid : (ws : List ℕ) (count : ℕ) (twig : List ℕ) →
    labels_words (all_labels ws count twig) ≡ laid (stream_in ws count) (leaf_names (wanted (read_twig twig)))
unfolding spec.streams
all_laid ws count twig = labels_words_laid (stream_in ws count) (wanted (read_twig twig))

-- the words of all streams are sixteen for each label
pub all_size : {rows : Table} {ws : List ℕ} {count : ℕ} → StoreAccepted rows ws count → (twig : List ℕ) →
    length (labels_words (all_labels ws count twig)) ≡ label_size * length (all_labels ws count twig)
unfolding spec.streams
all_size {ws = ws} {count} store twig =
    ap length (all_laid ws count twig) ∙ laid_size (stream_in ws count) (stream_short store) (wanted (read_twig twig))

-- what the loop does not change: an accepted store and twig, n nodes, and a place for the count of each
pub record Cutting (rows : Table) (ws : List ℕ) (count : ℕ) (twig : List ℕ) (n : ℕ) (counts₀ : List ℕ) : Type 0 where
  pub store : StoreAccepted rows ws count
  pub twig_good : twig_check twig ≡ none
  pub nodes : n ≡ length (read_twig twig)
  pub few : n ≤ 8
  pub places : 8 ≤ length counts₀

-- the streams of the leaves before node q are cut: so many leaves, and so many labels in all
pub record CutTo (rows : Table) (ws : List ℕ) (count : ℕ) (twig : List ℕ) (n q leaves labels : ℕ) (counts₀ counts buffer₀ buffer : List ℕ) : Type 0 where
  pub cutting : Cutting rows ws count twig n counts₀
  pub reached : q ≤ n
  pub leaves_few : leaves ≤ q
  pub labels_few : labels ≤ max_records * q
  pub poured : Poured (stream_in ws count) (leaves_to (read_twig twig) q) leaves labels counts₀ counts buffer₀ buffer

-- at the start no stream is cut
pub streams_none : (rows : Table) (ws : List ℕ) (count : ℕ) (twig counts buffer : List ℕ) → StoreAccepted rows ws count → twig_check twig ≡ none →
    8 ≤ length counts → {n : ℕ} → n ≡ length (read_twig twig) →
    CutTo rows ws count twig n 0 0 0 counts counts buffer buffer
streams_none rows ws count twig counts buffer store accepted places size = record {
  cutting = record { store = store; twig_good = accepted; nodes = size; few = omega (arith, twig_few twig accepted); places = places };
  reached = omega arith;
  leaves_few = omega arith;
  labels_few = omega arith;
  poured = poured_none (stream_in ws count) (read_twig twig) counts buffer;
}

module _ {rows : Table} {ws : List ℕ} {count : ℕ} {twig : List ℕ} {n q leaves labels : ℕ} {counts₀ counts buffer₀ buffer : List ℕ}
    (inv : CutTo rows ws count twig n q leaves labels counts₀ counts buffer₀ buffer) where
  -- at the end all streams are cut
  pub streams_all : n ≤ q → StreamsAnswered ws count twig (record { verdict = verdict.Passed; count = labels }) counts₀ counts buffer₀ buffer
  streams_all h =
      let whole : take q (wanted (read_twig twig)) ≡ wanted (read_twig twig) = take_all q (wanted (read_twig twig)) (omega (arith, inv.cutting.nodes, length_wanted (read_twig twig))) in
      let p' = rw whole at inv.poured in
      let long : length (labels_words (all_labels ws count twig)) ≡ label_size * labels = ap length (all_laid ws count twig) ∙ sym p'.size in
      record {
        told = ap verdict_of (sym ((room_iff (labels_words (all_labels ws count twig)) buffer₀).1 (omega (arith, p'.room))));
        cut = λ e. record {
          labels = omega (arith, all_size inv.cutting.store twig);
          in_counts = p'.in_counts;
          in_buffer_lem = p'.in_buffer_lem ∙ ap (λ ws. over ws buffer₀) (sym (all_laid ws count twig));
        };
      }

  module _ (inside : q < n) {b : Bool} (is : b ≡ is_leaf (read_twig twig) q) where
    -- node q is among those of the twig
    node_inside : q < length (read_twig twig)
    node_inside = omega (arith, inv.cutting.nodes)

    -- an inner node has no stream
    pub streams_inner : b ≡ false → {m k : ℕ} {counts' buffer' : List ℕ} → m ≡ leaves → k ≡ labels → counts' ≡ counts → buffer' ≡ buffer →
        CutTo rows ws count twig n (q + 1) m k counts₀ counts' buffer₀ buffer'
    streams_inner e f g h i = record {
      cutting = inv.cutting;
      reached = omega arith;
      leaves_few = omega (arith, inv.leaves_few);
      labels_few = omega (arith, inv.labels_few);
      poured = rw (leaves_inner (read_twig twig) q node_inside is e, f, g, h, i) inv.poured;
    }

    module _ (e : b ≡ true) {node : Node} (read : node ≡ node_of (node_at (read_twig twig) q))
        {a : Listing} {left : List ℕ}
        (cut : filled a left ≡ listing_of (spec.cut rows ws count node.name (take (length buffer - labels * label_size) (drop (labels * label_size) buffer)))) where
      -- the name of a leaf may be asked for
      name : name_check node.name 0 ≡ none
      name = rw read (name_asked_lem twig inv.cutting.twig_good q node_inside)

      -- the words lent for the stream are those behind the streams before it
      length_lent : length (take (length buffer - labels * label_size) (drop (labels * label_size) buffer)) + label_size * labels ≡ length buffer
      length_lent = rw tail_is (omega (arith, length-drop (labels * label_size) buffer, inv.poured.room, inv.poured.sized))

      -- where a stream has no room, all streams have none, and the answer is that refusal
      pub streams_short : {x : declared.Refusal} {r : Listing} {counts' buffer' : List ℕ} → a.verdict ≡ verdict.Refused x → r ≡ refused_by a.verdict →
          StreamsAnswered ws count twig r counts₀ counts' buffer₀ buffer'
      streams_short f g =
          let s = stream_in ws count in
          let before = leaves_to (read_twig twig) q in
          let (others, split) = leaves_split (read_twig twig) q node_inside is e in
          let (long, is_short) = cut_over inv.cutting.store _ _ name cut f in
          let words : labels_words (all_labels ws count twig) ≡ laid s before ++ (labels_words (s node.name) ++ laid s others) =
          all_laid ws count twig ∙ ap (laid s) split ∙ laid_append s before ((node_at (read_twig twig) q).name ∷ others) ∙ rw read (unfold joined in refl) in
          let more : length buffer₀ < length (labels_words (all_labels ws count twig)) =
          omega (
            arith,
            ap length words,
            length-append (laid s before) (labels_words (s node.name) ++ laid s others),
            length-append (labels_words (s node.name)) (laid s others),
            length_lent,
            inv.poured.size,
            inv.poured.sized,
          ) in
          let told = ap (λ (r : Listing). r.verdict) g ∙ is_short in
          record {
            told = told ∙ ap verdict_of (sym (room_failed (labels_words (all_labels ws count twig)) buffer₀ more));
            cut = λ h. absurd (some-ne-none _ (passed_none (refuse short_output 0) told h));
          }

      module _ (passed : a.verdict ≡ verdict.Passed) where
        -- the stream of a leaf is written, and its labels are counted
        done : filled a left ≡ filled (record { verdict = verdict.Passed; count = length (stream_in ws count node.name) })
            (over (labels_words (stream_in ws count node.name)) (take (length buffer - labels * label_size) (drop (labels * label_size) buffer)))
        done = cut_done inv.cutting.store _ _ name cut passed

        -- as many labels are answered as the stream has
        counted : a.count ≡ length (stream_in ws count node.name)
        counted = ap (λ f. f.answer.count) done

        -- a stream has at most 4,096 labels
        stream_few : a.count ≤ max_records
        stream_few =
            omega (
              arith,
              counted,
              length_stream node.name (elements count ws),
              length_elements_read count ws,
              ((size_iff (length ws) count).0 inv.cutting.store.size).few,
            )

        -- the labels of eight streams can be counted
        pub labels_fit : Fits w64 (labels + a.count)
        labels_fit = Fits-under _ _ 40000 (omega (arith, stream_few, inv.labels_few, inv.cutting.few)) tt

        -- the buffer has room for the words of the stream
        stream_fits : label_size * (labels + a.count) ≤ length buffer₀
        stream_fits =
            omega (
              arith,
              counted,
              length-labels_words (stream_in ws count node.name) (stream_short inv.cutting.store node.name),
              cut_fitted inv.cutting.store _ _ name cut passed,
              length_lent,
              inv.poured.sized,
            )

        -- with the stream of leaf q the streams before node q + 1 are cut
        pub streams_leaf : {m k : ℕ} {counts' buffer' : List ℕ} → m ≡ leaves + 1 → k ≡ labels + a.count →
            counts' ≡ set counts leaves a.count →
            buffer' ≡ take (labels * label_size) buffer ++ (left ++ drop (length buffer - labels * label_size) (drop (labels * label_size) buffer)) →
            CutTo rows ws count twig n (q + 1) m k counts₀ counts' buffer₀ buffer'
        streams_leaf f g i j =
            let names : leaves_to (read_twig twig) (q + 1) ≡ leaves_to (read_twig twig) q ++ (node.name ∷ []) = rw read (leaves_leaf (read_twig twig) q node_inside is e) in
            record {
              cutting = inv.cutting;
              reached = omega arith;
              leaves_few = omega (arith, inv.leaves_few);
              labels_few = omega (arith, inv.labels_few, stream_few);
              poured =
                  rw (names, f, g, i, j, counted)
                  (poured_next (stream_in ws count) (leaves_to (read_twig twig) q) leaves labels counts₀ counts buffer₀ buffer inv.poured node.name
                  (length-labels_words (stream_in ws count node.name) (stream_short inv.cutting.store node.name))
                  (omega (arith, stream_fits, counted))
                  (omega (arith, inv.leaves_few, inv.cutting.few, inv.cutting.places, inv.poured.kept)) (ap (λ f. f.output) done));
            }
