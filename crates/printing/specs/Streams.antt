-- The streams of the leaves of a twig, cut one after the other into a buffer.
use Rattle.std.specs.Prelude.{◌≡◌, List, map, ℕ, length}
use Rattle.std.proofs.Math.Option.{none}
use Rattle.basics.specs.Basics.{joined, over}
use Rattle.basics.specs.Outputs.{room_check}
use Rattle.naming.specs.Names.{Table, clues_of, table_check, root_check}
use Rattle.labelling.specs.Labels.{Label}
use Rattle.patterns.specs.Twigs.{read_twig, wanted, leaf_names, twig_check}
use Rattle.embeddings.specs.Matches.{labels_words}
use Rattle.storage.specs.Store.{elements, size_check, sound_check}
use Rattle.cut_calls.specs.Cutting.{stream, streams}
use Rattle.match_calls.specs.Matching.{streams_check}
use Rattle.refusals.specs.Answers.{verdict_of}
use Rattle.refusals.specs.declared.Listing.{Listing}
use Rattle.refusals.specs.declared.Verdict.TheVariants as verdict

-- an accepted store: its table, its size and its records
pub record StoreAccepted (rows : Table) (ws : List ℕ) (count : ℕ) : Type 0 where
  pub table : table_check rows ≡ none
  pub size : size_check (length ws) count ≡ none
  pub sound : sound_check (clues_of rows) count ws ≡ none

-- the labels of all leaves' streams, in the order of the leaves
abbrev pub all_labels : List ℕ → ℕ → List ℕ → List Label
all_labels ws count twig = joined (streams (read_twig twig) (elements count ws))

-- how many labels the stream of each leaf has, in the order of the leaves
abbrev pub stream_counts : List ℕ → ℕ → List ℕ → List ℕ
stream_counts ws count twig = map (λ want. length (stream want (elements count ws))) (leaf_names (wanted (read_twig twig)))

-- the streams stand in a buffer and their counts in a list, with n labels in all
pub record StreamsCut (ws : List ℕ) (count : ℕ) (twig : List ℕ) (n : ℕ) (counts₀ counts buffer₀ buffer : List ℕ) : Type 0 where
  pub labels : n ≡ length (all_labels ws count twig)
  pub in_counts : counts ≡ over (stream_counts ws count twig) counts₀
  pub in_buffer_lem : buffer ≡ over (labels_words (all_labels ws count twig)) buffer₀

-- the answer of cutting: refused where the streams have no room in the buffer, 17, and otherwise they are cut
pub record StreamsAnswered (ws : List ℕ) (count : ℕ) (twig : List ℕ) (r : Listing) (counts₀ counts buffer₀ buffer : List ℕ) : Type 0 where
  pub told : r.verdict ≡ verdict_of (room_check (labels_words (all_labels ws count twig)) buffer₀)
  pub cut : r.verdict ≡ verdict.Passed → StreamsCut ws count twig r.count counts₀ counts buffer₀ buffer

-- what matching takes but for the output: a table, a root name, a twig and streams that are accepted
pub record InputAccepted (rows : Table) (root : ℕ) (twig counts buffer : List ℕ) : Type 0 where
  pub table : table_check rows ≡ none
  pub root_name : root_check root ≡ none
  pub twig_good : twig_check twig ≡ none
  pub streams_good : streams_check (clues_of rows) root (read_twig twig) counts buffer ≡ none
