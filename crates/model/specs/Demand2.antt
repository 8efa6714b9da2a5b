-- Demand 2 over the definitions: the list of matches, and what streams cut from a sound store give.
use Rattle.std.specs.Prelude.{◌≡◌, ◌↔◌, List, [], map, ℕ, ◌≤◌, ◌+◌, ◌-◌, ◌*◌, length, get_or, T}
use Rattle.std.proofs.Math.Option.{none, some}
use Rattle.basics.specs.Basics.{◌∈◌, Ascending, over, joined}
use Rattle.basics.specs.Limits.{label_size}
use Rattle.naming.specs.Names.{Table, Clues, clues_of, table_check}
use Rattle.labelling.specs.Labels.{Label, within, decode, path, name_at}
use Rattle.patterns.specs.Twigs.{Twig, twig_check, read_twig, wanted, OneLeaf, name_check, leaf_names}
use Rattle.embeddings.specs.Matches.{earlier, matches, Match, GoodStreams, IsMatch, PathSolution, labels_words, match_words}
use Rattle.storage.specs.Store.{Element, elements, root_of, size_check, sound_check}
use Rattle.cut_calls.specs.Cutting.{streams, stream, cut, Cuts, full_list, cut_words}
use Rattle.basics.specs.Outputs.{Listing}
use Rattle.match_calls.specs.Matching.{streams_check, dealt, match_call}
use Rattle.model.specs.Trees.{names_to, Embedding}

-- What holds of the list of matches over streams that matching takes.
pub record ListHolds (cl : Clues) (root : ℕ) (t : Twig) (streams : List (List Label)) : Type 0 where
  -- the list of matches is strictly ascending: each match once, in label order
  pub ascending : Ascending earlier (matches cl root t streams)
  -- the list of matches has all matches, and nothing else
  pub exact : (m : Match) → m ∈ matches cl root t streams ↔ IsMatch cl root t streams m
  -- the matches of a twig with one leaf are its path solutions
  pub paths : OneLeaf t → (m : Match) → m ∈ matches cl root t streams ↔ PathSolution cl root t (get_or streams (length t - 1) []) m
  -- the matches take sixteen words for each label
  pub words : length (match_words (matches cl root t streams)) ≡ label_size * length t * length (matches cl root t streams)

-- What holds of a sound store and an accepted twig.
pub record StoreHolds (rows : Table) (ws : List ℕ) (count : ℕ) : Type 0 where
  -- every label above an element's is an element's
  pub rooted : (e : Element) → e ∈ elements count ws → (up : Label) → T (within up e.label) →
      (a : Element) × a ∈ elements count ws × (a.label ≡ up)
  -- each element's label decodes to the names on its way, under record 0's name as the root's
  pub decodes : (e : Element) → e ∈ elements count ws → decode (clues_of rows) (root_of ws) e.label ≡ path (names_to (elements count ws) e.label)
  -- the names on the way to an element are one more than its label has components
  pub depths : (e : Element) → e ∈ elements count ws → length (names_to (elements count ws) e.label) ≡ length e.label + 1
  -- each element's label decodes to the element's own name
  pub named : (e : Element) → e ∈ elements count ws → name_at (clues_of rows) (root_of ws) e.label ≡ some e.name
  -- the streams cut from the store ascend, and each label decodes to the name asked for
  pub streamed : (t : Twig) → GoodStreams (clues_of rows) (root_of ws) t (streams t (elements count ws))
  -- cutting with room enough gives the labels that a name asks for
  pub cutting :
      (want : ℕ) → name_check want 0 ≡ none → (out : List ℕ) → length (labels_words (stream want (elements count ws))) ≤ length out →
      cut rows ws count want out ≡
      record { refusal = none; count = length (stream want (elements count ws)); output = over (labels_words (stream want (elements count ws))) out }
  -- the full list is strictly ascending
  pub ascending : (t : Twig) → Ascending earlier (full_list (clues_of rows) (root_of ws) t (elements count ws))
  -- the full list holds the embeddings into the store's tree, and nothing else
  pub embeddings :
      (bytes : List ℕ) → twig_check bytes ≡ none → (m : Match) →
      m ∈ full_list (clues_of rows) (root_of ws) (read_twig bytes) (elements count ws) ↔ Embedding (read_twig bytes) (elements count ws) m
  -- the streams cut from the store are accepted, and matching them with room enough lists the full list
  pub matching :
      (bytes : List ℕ) → twig_check bytes ≡ none → (cuts : List Listing) → Cuts rows ws count (leaf_names (wanted (read_twig bytes))) cuts →
      (out : List ℕ) → length (match_words (full_list (clues_of rows) (root_of ws) (read_twig bytes) (elements count ws))) ≤ length out →
      match_call rows (root_of ws) bytes (map (λ a. a.count) cuts) (joined (map cut_words cuts)) out ≡
      record {
        refusal = none;
        count = length (full_list (clues_of rows) (root_of ws) (read_twig bytes) (elements count ws));
        output = over (match_words (full_list (clues_of rows) (root_of ws) (read_twig bytes) (elements count ws))) out;
      }

-- Demand 2: what holds of every twig with streams that matching takes, and of every sound store.
pub record Demand2 : Type 0 where
  -- what holds of the list of matches over accepted streams
  pub lists :
      (cl : Clues) (root : ℕ) (bytes counts buffer : List ℕ) → twig_check bytes ≡ none → streams_check cl root (read_twig bytes) counts buffer ≡ none →
      ListHolds cl root (read_twig bytes) (dealt (wanted (read_twig bytes)) counts buffer)
  -- an accepted call of matching lists the matches
  pub matchings :
      (rows : Table) (root : ℕ) (bytes counts buffer out : List ℕ) → (match_call rows root bytes counts buffer out).refusal ≡ none →
      match_call rows root bytes counts buffer out ≡
      record {
        refusal = none;
        count = length (matches (clues_of rows) root (read_twig bytes) (dealt (wanted (read_twig bytes)) counts buffer));
        output = over (match_words (matches (clues_of rows) root (read_twig bytes) (dealt (wanted (read_twig bytes)) counts buffer))) out;
      }
  -- what holds of every sound store
  pub stores :
      (rows : Table) (ws : List ℕ) (count : ℕ) → table_check rows ≡ none → size_check (length ws) count ≡ none →
      sound_check (clues_of rows) count ws ≡ none → StoreHolds rows ws count
