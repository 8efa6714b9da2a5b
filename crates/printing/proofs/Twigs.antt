-- A twig in an accepted store: the root's name, the streams that were cut for it, and what is printed for them.
use Prim.Native.Nat.{ℕ, ◌*◌, ◌<◌, ◌≤◌}
use mathlib.Core.Path.{◌≡◌, sym, ap, ◌∙◌}
use mathlib.Core.List.{List}
use mathlib.Core.Option.{none}
use native.Mathlib.Omega.{arith}
use mir.Syntax.{w8, w64}
use mir.Val.{Fits}
use lib.ListN.{length, get_or, take, length-map}
use lib.Seq.{get_or-take}
use lib.Dec.{le→leb}
use borrow.Author.Rules.{Fits-under}
use Rattle.basics.specs.Limits.{max_name, label_size, name_word, record_size}
use Rattle.basics.specs.Refusals.{bad_root}
use Rattle.naming.specs.Names.{Table, clues_of, is_name, root_check}
use Rattle.patterns.specs.Twigs.{read_twig, wanted, leaf_names, twig_check}
use Rattle.embeddings.specs.Matches.{labels_words}
use Rattle.storage.specs.Store.{read_element, elements, root_of}
use Rattle.cut_calls.specs.Cutting.{full_list}
use Rattle.match_calls.specs.Matching.{matches_of}
use Rattle.printouts.specs.Printing.{refusal_text, buffer_check}
use Rattle.basics.proofs.Refusals.{check_passed}
use Rattle.storage.proofs.Sizes.{size_iff, length_elements_read}
use Rattle.cut_calls.proofs.StreamWords.{dealt_wanted, streams_laid, counted, laid}
use Rattle.refusals.specs.Answers.{verdict_of}
use Rattle.refusals.specs.declared.Listing.{Listing}
use Rattle.refusals.specs.declared.Refusal as declared
use Rattle.refusals.specs.declared.Verdict.TheVariants as verdict
use Rattle.refusals.proofs.Verdicts.{passed_none}
use Rattle.printing.specs.Texts.{Prints, refusal_told, printed_by, list_printed, store_matches, buffer_checks}
use Rattle.printing.specs.Streams.{StoreAccepted, StreamsCut, StreamsAnswered, InputAccepted, all_labels, stream_counts}
use Rattle.basics.proofs.Outputs.{room_iff}
use Rattle.printing.proofs.Rooms.{cleared, room_buffer, taken, held}
use Rattle.printing.proofs.Cuts.{stream_in, elements_sound}
use Rattle.printing.proofs.Streams.{all_laid, all_size}
use Rattle.printing.proofs.Printed.{prints_as, printed_on, printed_refused}

-- the root's name stands in record 0
root_word : (ws : List ℕ) → get_or ws name_word 0 ≡ root_of ws
unfolding root_of read_element
root_word ws = sym (get_or-take record_size ws name_word 0 (omega arith))

module _ (rows : Table) (ws : List ℕ) (count : ℕ) (store : StoreAccepted rows ws count) where
  -- an accepted store has a record 0
  pub root_inside : name_word < length ws
  root_inside = let sized = (size_iff (length ws) count).0 store.size in omega (arith, sized.held, sized.used)

  -- the root's name is one that names may have
  root_low : get_or ws name_word 0 ≤ max_name
  root_low = rw (root_word ws) (elements_sound store).root_is_name

  -- the root's name is a byte
  pub root_byte : Fits w8 (get_or ws name_word 0)
  root_byte = Fits-under _ _ 64 (omega (arith, root_low)) tt

  -- the streams of a twig, cut into a buffer of 32,000 words
  module _ (twig counts₀ counts buffer : List ℕ) {r : Listing} (answer : StreamsAnswered ws count twig r counts₀ counts cleared buffer) where
    -- the verdict of cutting is that on the buffer
    streams_verdict : r.verdict ≡ verdict_of (buffer_check (labels_words (all_labels ws count twig)))
    streams_verdict = answer.told ∙ ap verdict_of (room_buffer (labels_words (all_labels ws count twig)))

    -- a refusal of cutting is printed
    pub twig_refused : {x : declared.Refusal} → r.verdict ≡ verdict.Refused x → {n : ℕ} {left text : List ℕ} → Prints (refusal_text (refusal_told x)) n left text →
        Prints (printed_by (buffer_checks rows ws count twig) (store_matches rows ws count twig)) n left text
    unfolding buffer_checks
    twig_refused e = printed_refused (buffer_check (labels_words (all_labels ws count twig))) _ _ streams_verdict e

    module _ (passed : r.verdict ≡ verdict.Passed) where
      -- streams that pass are cut
      streams : StreamsCut ws count twig r.count counts₀ counts cleared buffer
      streams = answer.cut passed

      -- the streams have sixteen words for each label
      words_count : r.count * label_size ≡ length (labels_words (all_labels ws count twig))
      words_count = omega (arith, streams.labels, all_size store twig)

      -- the words of the streams stand in the buffer
      pub words_held : r.count * label_size ≤ length buffer
      words_held = held (labels_words (all_labels ws count twig)) cleared words_count streams.in_buffer_lem

      -- the words of the streams can be counted, since the buffer has no more than 32,000
      pub words_fit_lem : Fits w64 (r.count * label_size)
      words_fit_lem =
          Fits-under _ _ 32001 (omega (arith, words_count, (room_iff (labels_words (all_labels ws count twig)) cleared).0 (passed_none _ answer.told passed))) tt

      module _ {k : ℕ} (leaves : k ≡ length (leaf_names (wanted (read_twig twig)))) where
        -- each leaf has a count
        counts_many : k ≡ length (stream_counts ws count twig)
        counts_many = leaves ∙ sym (length-map (leaf_names (wanted (read_twig twig))) (λ want. length (stream_in ws count want)))

        -- the counts of the streams stand in their list
        pub counts_held : k ≤ length counts
        counts_held = held (stream_counts ws count twig) counts₀ counts_many streams.in_counts

        -- the counts that matching takes are those of the streams
        counts_taken : take k counts ≡ counted (stream_in ws count) (leaf_names (wanted (read_twig twig)))
        counts_taken = taken (stream_counts ws count twig) counts₀ counts_many streams.in_counts

        -- the words that matching takes are those of the streams
        words_taken : take (r.count * label_size) buffer ≡ laid (stream_in ws count) (leaf_names (wanted (read_twig twig)))
        words_taken = taken (labels_words (all_labels ws count twig)) cleared words_count streams.in_buffer_lem ∙ all_laid ws count twig

        -- the counts and the streams are what matching takes
        pub twig_streamed : twig_check twig ≡ none → InputAccepted rows (get_or ws name_word 0) twig (take k counts) (take (r.count * label_size) buffer)
        unfolding root_check is_name
        twig_streamed accepted = record {
          table = store.table;
          root_name = check_passed _ bad_root 0 (le→leb (get_or ws name_word 0) max_name root_low);
          twig_good = accepted;
          streams_good =
              rw (counts_taken, words_taken, root_word ws)
              (streams_laid (clues_of rows) (root_of ws) (read_twig twig) (elements count ws) (elements_sound store)
              (omega (arith, length_elements_read count ws, ((size_iff (length ws) count).0 store.size).few)));
        }

        -- the matches over the streams are those in the store
        twig_matches : matches_of (clues_of rows) (get_or ws name_word 0) twig (take k counts) (take (r.count * label_size) buffer) ≡ store_matches rows ws count twig
        unfolding matches_of store_matches full_list
        twig_matches =
            rw (counts_taken, words_taken, root_word ws, dealt_wanted (read_twig twig) (elements count ws) (λ e m. ((elements_sound store).labelled e m).shallow))

        -- what is printed for the matches over the streams is printed for the twig
        pub twig_printed : {n : ℕ} {left text : List ℕ} →
            Prints (list_printed (matches_of (clues_of rows) (get_or ws name_word 0) twig (take k counts) (take (r.count * label_size) buffer))) n left text →
            Prints (printed_by (buffer_checks rows ws count twig) (store_matches rows ws count twig)) n left text
        unfolding buffer_checks list_printed
        twig_printed p =
            prints_as (printed_on (buffer_check (labels_words (all_labels ws count twig))) _ _ (passed_none _ streams_verdict passed)) (rw twig_matches at p)
