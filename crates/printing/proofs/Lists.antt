-- The matches over streams that matching takes: refused for want of room alone, and otherwise read back from the words
-- written.
use Prim.Native.Nat.{ℕ, ◌+◌, ◌*◌, ◌≤◌}
use mathlib.Core.Path.{◌≡◌, ap, ◌∙◌}
use mathlib.Core.List.{List, [], ◌++◌}
use mathlib.Core.Option.{none}
use native.Mathlib.Omega.{arith}
use lib.ListN.{length, drop, length-append}
use Rattle.basics.specs.Basics.{over}
use Rattle.basics.specs.Limits.{label_size}
use Rattle.naming.specs.Names.{Table, clues_of}
use Rattle.patterns.specs.Twigs.{read_twig, wanted}
use Rattle.embeddings.specs.Matches.{Match, match_words}
use Rattle.basics.specs.Outputs.{room_check}
use Rattle.match_calls.specs.Matching as spec
use Rattle.printouts.specs.Printing.{matches_text, refusal_text, buffer_check}
use Rattle.basics.proofs.Refusals.{first_rest, first_last}
use Rattle.patterns.proofs.TwigBytes.{accepted_twig}
use Rattle.embeddings.proofs.Matches.{matches_iff}
use Rattle.match_calls.proofs.StreamChecks.{streams_labels}
use Rattle.basics.proofs.Outputs.{listed_refusal, listed_whole}
use Rattle.printouts.proofs.FileStores.{buffer_iff}
use Rattle.embeddings.proofs.MatchSizes.{match_short}
use Rattle.refusals.specs.Answers.{verdict_of, filled, listing_of}
use Rattle.refusals.specs.declared.Listing.{Listing}
use Rattle.refusals.specs.declared.Refusal as declared
use Rattle.refusals.specs.declared.Verdict.TheVariants as verdict
use Rattle.refusals.proofs.Verdicts.{passed_none}
use Rattle.texts.specs.Texts.{matches_in, LabelDepths, label_room, count_room}
use Rattle.texts.proofs.Words.{Shallow, matches_in-match_words, match_words_deep, match_words_held}
use Rattle.printing.specs.Texts.{Prints, refusal_told, list_printed}
use Rattle.printing.specs.Streams.{InputAccepted}
use Rattle.printing.proofs.Rooms.{cleared, room_buffer}
use Rattle.printing.proofs.Printed.{prints_as, prints_matches, printed_on, printed_refused}

module _ (rows : Table) (root : ℕ) (twig counts buffer : List ℕ) (given : InputAccepted rows root twig counts buffer) where
  -- the matches of the twig over the streams
  abbrev found : List Match
  found = spec.matches_of (clues_of rows) root twig counts buffer

  -- each match has a label for each node, of at most fifteen components
  found_shallow : Shallow (length (read_twig twig)) found
  unfolding spec.matches_of
  found_shallow m k =
      let t = read_twig twig in
      let good = accepted_twig twig given.twig_good in
      let h = (matches_iff (clues_of rows) root t (spec.dealt (wanted t) counts buffer) good m).0 k in (
        h.whole,
        match_short (clues_of rows) root t good (spec.dealt (wanted t) counts buffer)
            (streams_labels (clues_of rows) root t counts buffer given.streams_good) m h,
      )

  -- an accepted twig has a node, so a match has a label
  pub list_some : {k : ℕ} → k ≡ length (read_twig twig) → 1 ≤ k
  list_some nodes = omega (arith, (accepted_twig twig given.twig_good).some_node)

  -- of the checks of matching only that of the output can refuse
  match_refusal_lem : (out : List ℕ) → spec.match_refusal rows root twig counts buffer out ≡ room_check (match_words found) out
  unfolding spec.match_refusal
  match_refusal_lem out =
      first_rest _ _ given.table ∙ first_rest _ _ given.root_name ∙ first_rest _ _ given.twig_good ∙ first_rest _ _ given.streams_good ∙ first_last _

  module _ {a : Listing} {left : List ℕ} (call : filled a left ≡ listing_of (spec.match_call rows root twig counts buffer cleared)) where
    -- the verdict of matching is that on the buffer
    list_verdict : a.verdict ≡ verdict_of (buffer_check (match_words found))
    unfolding spec.match_call
    list_verdict = ap (λ f. f.answer.verdict) call ∙ ap verdict_of (listed_refusal _ _ _ _ ∙ match_refusal_lem cleared ∙ room_buffer (match_words found))

    -- a refusal of matching is printed
    pub list_refused : {x : declared.Refusal} → a.verdict ≡ verdict.Refused x →
        {n : ℕ} {text' text : List ℕ} → Prints (refusal_text (refusal_told x)) n text' text → Prints (list_printed found) n text' text
    unfolding list_printed
    list_refused e = printed_refused (buffer_check (match_words found)) [] found list_verdict e

    module _ (passed : a.verdict ≡ verdict.Passed) where
      -- matches that are written have room in the buffer
      fits : buffer_check (match_words found) ≡ none
      fits = passed_none _ list_verdict passed

      -- the matches are written, and counted
      done : filled a left ≡ filled (record { verdict = verdict.Passed; count = length found }) (match_words found ++ drop (length (match_words found)) cleared)
      unfolding spec.match_call over
      done = call ∙ ap listing_of (listed_whole _ _ _ cleared (match_refusal_lem cleared ∙ room_buffer (match_words found) ∙ fits))

      -- the count that is answered is that of the matches
      counted : a.count ≡ length found
      counted = ap (λ f. f.answer.count) done

      -- the words of the matches stand at the start of the buffer
      words : left ≡ match_words found ++ drop (length (match_words found)) cleared
      words = ap (λ f. f.output) done

      module _ {k : ℕ} (nodes : k ≡ length (read_twig twig)) where
        -- the words hold the labels of all matches
        pub list_held : label_size * (k * a.count) ≤ length left
        list_held = rw (nodes, counted, words) (match_words_held (length (read_twig twig)) found (drop (length (match_words found)) cleared) found_shallow)

        -- the labels of all matches have at most fifteen components
        pub list_deep : LabelDepths (k * a.count) left
        list_deep = rw (nodes, counted, words) (match_words_deep (length (read_twig twig)) found (drop (length (match_words found)) cleared) found_shallow)

        -- a text of 180,064 bytes has room for the matches
        pub list_room : {m : ℕ} → 180064 ≤ m → label_room * (k * a.count) + count_room ≤ m
        list_room room =
            rw (nodes, counted)
            (omega (
              arith,
              match_words_held (length (read_twig twig)) found [] found_shallow,
              length-append (match_words found) [],
              (buffer_iff (match_words found)).0 fits,
            ))

        -- the matches read back from the words are those found
        back : matches_in k a.count left ≡ found
        back =
            rw (nodes, counted, words)
            (matches_in-match_words (length (read_twig twig)) found (drop (length (match_words found)) cleared) found_shallow)

        -- the matches read back are printed
        pub list_printed_lem : {n : ℕ} {text' text : List ℕ} →
            n ≡ length (matches_text (matches_in k a.count left)) → text' ≡ over (matches_text (matches_in k a.count left)) text →
            Prints (list_printed found) n text' text
        unfolding list_printed
        list_printed_lem f g =
            prints_as (printed_on (buffer_check (match_words found)) [] found fits) (rw back at (prints_matches (matches_in k a.count left) f g))
