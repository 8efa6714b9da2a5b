-- What a store that passed its checks gives cutting: room for its records, and labels laid out in them.
use Prim.Native.Nat.{ℕ, zero, suc, ◌*◌, ◌<◌, ◌≤◌}
use mathlib.Core.Path.{◌≡◌, sym, subst, ◌∙◌}
use mathlib.Core.List.{List, [], ◌∷◌}
use mathlib.Core.Option.{none}
use native.Mathlib.Omega.{arith}
use lib.ListN.{length, take, drop}
use lib.Dec.{T}
use Rattle.basics.specs.Basics.{◌∈◌}
use Rattle.basics.specs.Limits.{max_depth, label_size, record_size}
use Rattle.naming.specs.Names.{Table, Clues, clues_of}
use Rattle.embeddings.specs.Matches.{labels_words}
use Rattle.storage.specs.Store.{Element, read_element, records, elements, laid_out, fault}
use Rattle.cut_calls.specs.Cutting.{stream}
use Rattle.storage.proofs.Faults.{fault_cons, sound_check_lem}
use Rattle.basics.proofs.Lists.{member_at}
use Rattle.embeddings.proofs.MatchWords.{length-labels_words}
use Rattle.storage.proofs.Relaid.{sound_laid}
use Rattle.storage.proofs.Sizes.{length_elements_read}
use Rattle.storage.proofs.SoundStore.{label_good}
use Rattle.cut_calls.proofs.StreamWords.{for_stream}
use Rattle.refusals.specs.Answers.{verdict_of}
use Rattle.refusals.specs.declared.Verdict.{Verdict}
use Rattle.refusals.specs.declared.Verdict.TheVariants as verdict
use Rattle.refusals.proofs.Verdicts.{passed_none}
use Rattle.records.specs.Records.{record_at}
use Rattle.records.proofs.Elements.{record_first, record_behind, element_at_lem}
use Rattle.store_checks.specs.Stores.{store_check}
use Rattle.store_checks.proofs.Stores.{store_sound, store_room}
use Rattle.cutting.specs.Words.{AllLaid}

-- sound records are laid out as they must be
sound_records : (cl : Clues) (count : ℕ) (done : List Element) (ws : List ℕ) → fault cl done (records count ws) ≡ none → AllLaid count ws
unfolding records
sound_records cl zero done ws e r h = absurd (omega arith)
sound_records cl (suc n) done ws e zero h =
    subst (λ rec. T (laid_out rec)) (record_first ws) (sound_laid cl done (take record_size ws) (fault_cons cl done _ _ e).0)
sound_records cl (suc n) done ws e (suc r) h =
    subst (λ rec. T (laid_out rec)) (record_behind r ws)
    (sound_records cl n (read_element (take record_size ws) ∷ done) (drop record_size ws) (fault_cons cl done _ _ e).1 r (omega arith))

module _ (rows : Table) (ws : List ℕ) (count : ℕ) {v : Verdict} (checked : v ≡ verdict_of (store_check rows ws count)) (good : v ≡ verdict.Passed) where
  -- the store has room for the records in use
  pub store_held : record_size * count ≤ length ws
  store_held = store_room rows ws count (passed_none (store_check rows ws count) checked good)

  -- each record in use of a store that passed is laid out as it must be
  pub store_laid : AllLaid count ws
  store_laid =
      sound_records (clues_of rows) count [] ws ((sound_check_lem (clues_of rows) count ws).0 (store_sound rows ws count (passed_none (store_check rows ws count) checked good)))

-- records that are laid out have labels that fit their words
laid_fit : (count : ℕ) (ws : List ℕ) → AllLaid count ws → (e : Element) → e ∈ elements count ws → length e.label ≤ max_depth
laid_fit count ws laid e m =
    let d : Element = read_element [] in
    let (r, h, at) = (member_at d (elements count ws) e).0 m in
    let inside : r < count = omega (arith, length_elements_read count ws) in
    subst (λ (e : Element). length e.label ≤ max_depth) (sym (element_at_lem count ws r d inside) ∙ at) (label_good (record_at r ws) (laid r inside)).shallow

-- a stream of records that are laid out has sixteen words for each label
pub stream_words : (want count : ℕ) (ws : List ℕ) → AllLaid count ws →
    length (labels_words (stream want (elements count ws))) ≡ label_size * length (stream want (elements count ws))
stream_words want count ws laid =
    length-labels_words (stream want (elements count ws))
    (for_stream (λ l. length l ≤ max_depth) want (elements count ws) (λ e m a. laid_fit count ws laid e m))
