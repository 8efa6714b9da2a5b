-- Cutting from a store of sound elements, and matching the streams that were cut.
use mathlib.Core.Path.{◌≡◌, refl, sym, ap, ap₂, ◌∙◌}
use mathlib.Core.List.{List, [], ◌∷◌, map}
use mathlib.Core.Option.{none}
use Prim.Native.Nat.{ℕ, ◌≤◌}
use lib.ListN.{length, take}
use lib.Dec.{leb, le→leb}
use Rattle.basics.specs.Basics.{over, joined}
use Rattle.basics.specs.Limits.{max_depth, max_records, max_name}
use Rattle.basics.specs.Refusals.{first, short_output, bad_root}
use Rattle.naming.specs.Names.{Table, table_check, clues_of, root_check, is_name}
use Rattle.patterns.specs.Twigs.{name_check, twig_check, leaf_names, wanted, read_twig}
use Rattle.embeddings.specs.Matches.{labels_words, match_words, matches}
use Rattle.storage.specs.Store.{Element, sound_check, elements, size_check}
use Rattle.basics.specs.Outputs.{listed, Listing, room_check}
use Rattle.cut_calls.specs.Cutting.{cut, Cuts, cut_refusal, cut_words, stream, full_list, streams}
use Rattle.match_calls.specs.Matching.{match_call, match_refusal, matches_of}
use Rattle.basics.proofs.Refusals.{check_passed}
use Rattle.embeddings.proofs.MatchWords.{length-labels_words}
use Rattle.storage.proofs.Words.{Fit}
use Rattle.basics.proofs.Outputs.{take_over, listed_refusal, listed_whole}
use Rattle.storage.proofs.SoundStore.{SoundElements}
use Rattle.cut_calls.proofs.StreamWords.{for_stream, dealt_wanted, streams_laid}

-- a store under an accepted table whose records are sound and read as the elements es
pub record Stored (rows : Table) (ws : List ℕ) (count root : ℕ) (es : List Element) : Type 0 where
  pub table : table_check rows ≡ none
  pub sound : sound_check (clues_of rows) count ws ≡ none
  pub read : elements count ws ≡ es
  pub good : SoundElements (clues_of rows) root es
  pub few : length es ≤ max_records

module _ {rows : Table} {ws : List ℕ} {count root : ℕ} {es : List Element} (store : Stored rows ws count root es) where
  -- the labels of the elements fit their records
  short : Fit es
  short e m = (store.good.labelled e m).shallow

  -- an accepted cut answers the stream of its name
  cut_taken : (want : ℕ) (out : List ℕ) → (cut rows ws count want out).refusal ≡ none →
      cut rows ws count want out ≡ record { refusal = none; count = length (stream want es); output = over (labels_words (stream want es)) out }
  unfolding cut
  cut_taken want out e =
      listed_whole (cut_refusal rows ws count want out) _ _ out (sym (listed_refusal _ _ _ _) ∙ e) ∙
      ap {B = Listing} (λ es. record { refusal = none; count = length (stream want es); output = over (labels_words (stream want es)) out }) store.read

  -- cutting with room enough is accepted
  pub cut_listed : (want : ℕ) (out : List ℕ) → size_check (length ws) count ≡ none → name_check want 0 ≡ none →
      length (labels_words (stream want es)) ≤ length out →
      cut rows ws count want out ≡ record { refusal = none; count = length (stream want es); output = over (labels_words (stream want es)) out }
  unfolding cut cut_refusal room_check first
  cut_listed want out size name room =
      rw (store.read, store.table, size, store.sound, name, check_passed (leb (length (labels_words (stream want es))) (length out)) short_output 0 (le→leb _ _ room))
      (unfold listed in refl)

  -- the words of an accepted cut are those of the stream
  cut_words_lem : (want : ℕ) (out : List ℕ) → (cut rows ws count want out).refusal ≡ none → cut_words (cut rows ws count want out) ≡ labels_words (stream want es)
  cut_words_lem want out e =
      ap cut_words (cut_taken want out e) ∙
      ap (λ n. take n (over (labels_words (stream want es)) out))
      (sym (length-labels_words (stream want es) (for_stream (λ l. length l ≤ max_depth) want es (λ x m a. short x m)))) ∙
      take_over (labels_words (stream want es)) out

  -- the counts that cutting answered are the lengths of the streams
  cuts_counted : (wants : List ℕ) (cuts : List Listing) → Cuts rows ws count wants cuts → map (λ a. a.count) cuts ≡ map (λ want. length (stream want es)) wants
  cuts_counted [] [] c = refl
  cuts_counted [] (a ∷ cuts) c = absurd c
  cuts_counted (want ∷ wants) [] c = absurd c
  cuts_counted (want ∷ wants) (a ∷ cuts) c =
      let (out, e, ok) = c.0 in
      ap₂ ◌∷◌ (ap (λ (a : Listing). a.count) (e ∙ cut_taken want out (ap (λ (a : Listing). a.refusal) (sym e) ∙ ok))) (cuts_counted wants cuts c.1)

  -- the words that cutting wrote are those of the streams
  cuts_worded : (wants : List ℕ) (cuts : List Listing) → Cuts rows ws count wants cuts → map cut_words cuts ≡ map (λ want. labels_words (stream want es)) wants
  cuts_worded [] [] c = refl
  cuts_worded [] (a ∷ cuts) c = absurd c
  cuts_worded (want ∷ wants) [] c = absurd c
  cuts_worded (want ∷ wants) (a ∷ cuts) c =
      let (out, e, ok) = c.0 in
      ap₂ ◌∷◌ (ap cut_words e ∙ cut_words_lem want out (ap (λ (a : Listing). a.refusal) (sym e) ∙ ok)) (cuts_worded wants cuts c.1)

  -- streams cut from the store and matched with room enough give the full list
  pub match_listed : (bytes : List ℕ) → twig_check bytes ≡ none → (cuts : List Listing) → Cuts rows ws count (leaf_names (wanted (read_twig bytes))) cuts →
      (out : List ℕ) → length (match_words (full_list (clues_of rows) root (read_twig bytes) es)) ≤ length out →
      match_call rows root bytes (map (λ a. a.count) cuts) (joined (map cut_words cuts)) out ≡
      record {
        refusal = none;
        count = length (full_list (clues_of rows) root (read_twig bytes) es);
        output = over (match_words (full_list (clues_of rows) root (read_twig bytes) es)) out;
      }
  unfolding match_call match_refusal matches_of full_list root_check is_name room_check first
  match_listed bytes twig cuts c out room =
      rw (
        cuts_counted (leaf_names (wanted (read_twig bytes))) cuts c,
        cuts_worded (leaf_names (wanted (read_twig bytes))) cuts c,
        dealt_wanted (read_twig bytes) es short,
        store.table,
        check_passed (is_name root) bad_root 0 (le→leb root max_name store.good.root_is_name),
        twig,
        streams_laid (clues_of rows) root (read_twig bytes) es store.good store.few,
        check_passed (leb (length (match_words (matches (clues_of rows) root (read_twig bytes) (streams (read_twig bytes) es)))) (length out)) short_output 0
            (le→leb _ _ room),
      )
      (unfold listed in refl)
