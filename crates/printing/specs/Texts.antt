-- What is printed for the words of a store and a twig: the matches, unless a check refuses.
use Rattle.std.specs.Prelude.{◌≡◌, List, [], ◌∷◌, ℕ, length}
use Rattle.std.proofs.Math.Option.{Option}
use Rattle.basics.specs.Basics.{elim?, over, joined}
use Rattle.basics.specs.Refusals.{Refusal, first}
use Rattle.naming.specs.Names.{Table, clues_of}
use Rattle.patterns.specs.Twigs.{read_twig, twig_check}
use Rattle.embeddings.specs.Matches.{Match, labels_words, match_words}
use Rattle.storage.specs.Store.{elements, sound_check, root_of}
use Rattle.cut_calls.specs.Cutting.{streams, full_list}
use Rattle.printouts.specs.Printing.{matches_text, refusal_text, buffer_check}
use Rattle.refusals.specs.declared.Refusal as declared

-- bytes printed stand at the start of a text, and the answer is how many they are
pub record Prints (bytes : List ℕ) (n : ℕ) (left text : List ℕ) : Type 0 where
  pub many : n ≡ length bytes
  pub stand : left ≡ over bytes text

-- the refusal that the code's data tells
abbrev pub refusal_told : declared.Refusal → Refusal
refusal_told x = record { number = x.number; place = x.place }

-- what is printed: the refusal of the first check that refuses, and otherwise the matches
unfoldable pub printed_by : List (Option Refusal) → List Match → List ℕ
printed_by cs ms = elim? (first cs) (matches_text ms) refusal_text

-- what is printed for a list of matches, which is refused where it does not fit its buffer, 17
unfoldable pub list_printed : List Match → List ℕ
list_printed ms = printed_by (buffer_check (match_words ms) ∷ []) ms

-- the matches of a twig's bytes in the records of a store, under record 0's name as the root's
unfoldable pub store_matches : Table → List ℕ → ℕ → List ℕ → List Match
store_matches rows ws count twig = full_list (clues_of rows) (root_of ws) (read_twig twig) (elements count ws)

-- the checks of the buffers: 17 for the streams, 17 for the matches
unfoldable pub buffer_checks : Table → List ℕ → ℕ → List ℕ → List (Option Refusal)
buffer_checks rows ws count twig =
    buffer_check (labels_words (joined (streams (read_twig twig) (elements count ws)))) ∷ buffer_check (match_words (store_matches rows ws count twig)) ∷ []

-- the checks of a store and a twig: 19, 23 to 25, 4 to 8, 17
unfoldable pub store_checks : Table → List ℕ → ℕ → List ℕ → List (Option Refusal)
store_checks rows ws count twig = sound_check (clues_of rows) count ws ∷ twig_check twig ∷ buffer_checks rows ws count twig
