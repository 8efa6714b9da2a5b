-- Demand 2: the list of matches, and what streams cut from a sound store give.
use mathlib.Core.Path.{◌≡◌, refl, ap, sym, ◌∙◌}
use mathlib.Core.List.{List, [], ◌∷◌, ◌++◌}
use mathlib.Core.Option.{none}
use Prim.Native.Nat.{ℕ, zero, suc}
use native.Mathlib.Omega.{arith}
use lib.ListN.{length}
use Rattle.naming.specs.Names.{Table, Clues, table_check, clues_of}
use Rattle.labelling.specs.Labels.{Label, above}
use Rattle.patterns.specs.Twigs.{twig_check, read_twig, wanted}
use Rattle.storage.specs.Store.{root_of, size_check, sound_check, elements, records}
use Rattle.match_calls.specs.Matching.{streams_check, dealt, match_call, matches_of}
use Rattle.model.specs.Trees.{names_to}
use Rattle.model.specs.Demand2.{Demand2, ListHolds, StoreHolds}
use Rattle.basics.proofs.Lists.{for_cons}
use Rattle.labelling.proofs.LabelOrder.{above_snoc}
use Rattle.labelling.proofs.Decode.{path_length}
use Rattle.patterns.proofs.TwigBytes.{accepted_twig}
use Rattle.embeddings.proofs.Matches.{matches_ascending, matches_iff}
use Rattle.embeddings.proofs.Paths.{path_solutions}
use Rattle.embeddings.proofs.MatchSizes.{match_words_lem}
use Rattle.storage.proofs.Sizes.{size_iff, length_elements_read}
use Rattle.storage.proofs.Faults.{sound_check_lem}
use Rattle.storage.proofs.SoundStore.{store_elements, sound_root, sound_parents}
use Rattle.match_calls.proofs.StreamChecks.{streams_accepted, streams_labels}
use Rattle.cut_calls.proofs.StreamWords.{streams_sound}
use Rattle.cut_calls.proofs.Listings.{Stored, cut_listed, match_listed}
use Rattle.basics.proofs.Outputs.{listed_whole, listed_refusal}
use Rattle.book.proofs.Good.{snoc_root}
use Rattle.model.proofs.Trees.{Has, Rooted, ancestor, decode_names}
use Rattle.model.proofs.Embeddings.{full_ascending, full_embeddings}

-- the list of matches over accepted streams is what demand 2 says of it
list_holds : (cl : Clues) (root : ℕ) (bytes counts buffer : List ℕ) → twig_check bytes ≡ none → streams_check cl root (read_twig bytes) counts buffer ≡ none →
    ListHolds cl root (read_twig bytes) (dealt (wanted (read_twig bytes)) counts buffer)
list_holds cl root bytes counts buffer twig taken =
    let t = read_twig bytes in
    let good = accepted_twig bytes twig in
    let streams = dealt (wanted t) counts buffer in
    record {
      ascending = matches_ascending cl root t streams (streams_accepted cl root t counts buffer taken).each_leaf;
      exact = matches_iff cl root t streams good;
      paths = path_solutions cl root t streams good;
      words = match_words_lem cl root t good streams (streams_labels cl root t counts buffer taken);
    }

-- right above every element of an accepted store but record 0's stands another element
store_rooted : (cl : Clues) (ws : List ℕ) (count : ℕ) → size_check (length ws) count ≡ none → sound_check cl count ws ≡ none → Rooted (elements count ws)
unfolding elements records
store_rooted cl ws zero size sound = absurd (omega (arith, ((size_iff (length ws) 0).0 size).used))
store_rooted cl ws (suc n) size sound =
    let faultless = (sound_check_lem cl (suc n) ws).0 sound in
    for_cons (λ e. (up : Label) (c : ℕ) → e.label ≡ up ++ (c ∷ []) → Has (elements (suc n) ws) up)
    (λ up c f. absurd (snoc_root up c (sym f ∙ sound_root cl n ws faultless)))
    (λ e m up c f. let p = sound_parents cl n ws faultless e m in (p.parent, p.stands, p.right_above ∙ ap above f ∙ above_snoc up c))

-- a sound store gives what demand 2 says of it
store_holds : (rows : Table) (ws : List ℕ) (count : ℕ) → table_check rows ≡ none → size_check (length ws) count ≡ none →
    sound_check (clues_of rows) count ws ≡ none → StoreHolds rows ws count
store_holds rows ws count table size sound =
    let good = store_elements (clues_of rows) ws count size sound in
    let es = elements count ws in
    let tree = store_rooted (clues_of rows) ws count size sound in
    let store : Stored rows ws count (root_of ws) es = record {
      table = table;
      sound = sound;
      read = refl;
      good = good;
      few = omega (arith, length_elements_read count ws, ((size_iff (length ws) count).0 size).few);
    } in
    record {
      rooted = ancestor es tree;
      decodes = decode_names good tree;
      depths = λ e m. path_length (clues_of rows) (root_of ws) e.label (names_to es e.label) (decode_names good tree e m);
      named = good.named;
      streamed = λ t. streams_sound (clues_of rows) (root_of ws) t es good;
      cutting = λ want name out room. cut_listed store want out size name room;
      ascending = full_ascending good;
      embeddings = λ bytes twig. full_embeddings good (read_twig bytes) tree (accepted_twig bytes twig);
      matching = match_listed store;
    }

-- demand 2 holds
pub demand2 : Demand2
unfolding match_call matches_of
demand2 = record {
  lists = list_holds;
  matchings = λ rows root bytes counts buffer out e. listed_whole _ _ _ out (sym (listed_refusal _ _ _ out) ∙ e);
  stores = store_holds;
}
