-- Cutting from a store that was accepted: it refuses for want of room alone, and otherwise writes the stream.
use Prim.Native.Nat.{ℕ, ◌<◌, ◌≤◌}
use mathlib.Core.Path.{◌≡◌, ap, ◌∙◌}
use mathlib.Core.List.{List}
use mathlib.Core.Option.{none}
use lib.ListN.{length}
use Rattle.basics.specs.Basics.{◌∈◌, over}
use Rattle.basics.specs.Limits.{max_depth}
use Rattle.basics.specs.Refusals.{refuse, short_output}
use Rattle.naming.specs.Names.{Table, clues_of}
use Rattle.labelling.specs.Labels.{Label}
use Rattle.patterns.specs.Twigs.{name_check}
use Rattle.embeddings.specs.Matches.{labels_words}
use Rattle.storage.specs.Store.{elements, root_of}
use Rattle.basics.specs.Outputs as outputs
use Rattle.cut_calls.specs.Cutting as spec
use Rattle.basics.proofs.Refusals.{first_rest, first_last}
use Rattle.storage.proofs.SoundStore.{SoundElements, store_elements}
use Rattle.cut_calls.proofs.StreamWords.{for_stream}
use Rattle.basics.proofs.Outputs.{listed_refusal, listed_whole, room_iff}
use Rattle.refusals.specs.Answers.{verdict_of, filled, listing_of}
use Rattle.refusals.specs.declared.Listing.{Listing}
use Rattle.refusals.specs.declared.Refusal as declared
use Rattle.refusals.specs.declared.Verdict.TheVariants as verdict
use Rattle.refusals.proofs.Verdicts.{passed_none}
use Rattle.printing.specs.Streams.{StoreAccepted}
use Rattle.printing.proofs.Rooms.{room_refused}

-- the stream of a name in the records of a store
abbrev pub stream_in : List ℕ → ℕ → ℕ → List Label
stream_in ws count want = spec.stream want (elements count ws)

module _ {rows : Table} {ws : List ℕ} {count : ℕ} (store : StoreAccepted rows ws count) where
  -- the elements of an accepted store are sound
  pub elements_sound : SoundElements (clues_of rows) (root_of ws) (elements count ws)
  elements_sound = store_elements (clues_of rows) ws count store.size store.sound

  -- a label of a stream fits its words
  pub stream_short : (want : ℕ) (l : Label) → l ∈ stream_in ws count want → length l ≤ max_depth
  stream_short want = for_stream (λ l. length l ≤ max_depth) want (elements count ws) (λ e m a. (elements_sound.labelled e m).shallow)

  -- of the checks of cutting only that of the output can refuse
  cut_refusal_lem : (want : ℕ) (out : List ℕ) → name_check want 0 ≡ none →
      spec.cut_refusal rows ws count want out ≡ outputs.room_check (labels_words (stream_in ws count want)) out
  unfolding spec.cut_refusal
  cut_refusal_lem want out name =
      first_rest _ _ store.table ∙ first_rest _ _ store.size ∙ first_rest _ _ store.sound ∙ first_rest _ _ name ∙ first_last _

  -- cutting by a name that may be asked for, which answers a and leaves `left`
  module _ (want : ℕ) (out : List ℕ) (name : name_check want 0 ≡ none) {a : Listing} {left : List ℕ}
      (cut : filled a left ≡ listing_of (spec.cut rows ws count want out)) where
    -- the verdict of cutting is that on its output
    cut_verdict : a.verdict ≡ verdict_of (outputs.room_check (labels_words (stream_in ws count want)) out)
    unfolding spec.cut
    cut_verdict = ap (λ f. f.answer.verdict) cut ∙ ap verdict_of (listed_refusal _ _ _ _ ∙ cut_refusal_lem want out name)

    -- a refusal tells that the output has no room for the stream
    pub cut_over : {x : declared.Refusal} → a.verdict ≡ verdict.Refused x →
        (length out < length (labels_words (stream_in ws count want))) × (a.verdict ≡ verdict_of (refuse short_output 0))
    cut_over f = room_refused (labels_words (stream_in ws count want)) out cut_verdict f

    module _ (passed : a.verdict ≡ verdict.Passed) where
      -- a stream that is cut has room in the output
      pub cut_fitted : length (labels_words (stream_in ws count want)) ≤ length out
      cut_fitted = (room_iff _ out).0 (passed_none _ cut_verdict passed)

      -- a stream that is cut is written, and its labels are counted
      pub cut_done : filled a left ≡ filled (record { verdict = verdict.Passed; count = length (stream_in ws count want) }) (over (labels_words (stream_in ws count want)) out)
      unfolding spec.cut
      cut_done = cut ∙ ap listing_of (listed_whole _ _ _ out (cut_refusal_lem want out name ∙ passed_none _ cut_verdict passed))
