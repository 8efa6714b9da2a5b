-- When the program prints matches, and which refusal it prints else:
-- that of the first fact that fails, in the order of its checks.
use Rattle.std.specs.Prelude.{◌≡◌, ◌↔◌, List, map, ℕ, ◌*◌, ◌%◌, ◌<◌, ◌≤◌, length}
use Rattle.std.proofs.Math.Option.{Option, none, some}
use Rattle.basics.specs.Basics.{total}
use Rattle.basics.specs.Limits.{label_size, record_size, max_bytes}
use Rattle.basics.specs.Refusals.{Refusal, refuse, short_output, store_size}
use Rattle.naming.specs.Names.{Clues, clues_of, file_check, read_names}
use Rattle.patterns.specs.Twigs.{read_twig, twig_check, wanted, leaf_names}
use Rattle.storage.specs.Store.{sound_check}
use Rattle.cut_calls.specs.Cutting.{stream}
use Rattle.printouts.specs.Printing.{matches_text, refusal_text, file_words, file_count, file_elements, file_matches, print_refusal, printed}

-- the facts of refusal 18 for a store's file: not empty, at most 64,000 bytes, a multiple of 40
pub record StoreLength (len : ℕ) : Type 0 where
  pub positive : 0 < len
  pub small : len ≤ max_bytes
  pub whole : len % (2 * record_size) ≡ 0

-- the clues that a child-name file gives
abbrev pub file_clues : List ℕ → Clues
file_clues names = clues_of (read_names names).table

-- the check of the records of a store's file, which refuses by 19 and 23 to 25
abbrev pub file_sound : List ℕ → List ℕ → Option Refusal
file_sound names store = sound_check (file_clues names) (file_count store) (file_words store)

-- the bytes of all streams: a leaf's has the labels that its name asks for, and a label has 16 words of two bytes
unfoldable pub stream_bytes : List ℕ → List ℕ → ℕ
stream_bytes store twig = 2 * (label_size * total (map (λ want. length (stream want (file_elements store))) (leaf_names (wanted (read_twig twig)))))

-- the bytes of all matches: each match has a label for each node of the twig
unfoldable pub match_bytes : List ℕ → List ℕ → List ℕ → ℕ
match_bytes names store twig = 2 * (label_size * (length (read_twig twig) * length (file_matches (file_clues names) store twig)))

-- the facts that the program's checks ask for, in the order of the checks
pub record Printable (names store twig : List ℕ) : Type 0 where
  pub named : file_check names ≡ none
  pub sized : StoreLength (length store)
  pub sound : file_sound names store ≡ none
  pub asked : twig_check twig ≡ none
  pub stream_room : stream_bytes store twig ≤ max_bytes
  pub match_room : match_bytes names store twig ≤ max_bytes

-- why the program refuses: the first of the facts of its files that fails, all before it holding
pub data Unprintable (names store twig : List ℕ) (r : Refusal) : Type 0 where
  -- refused by 1 to 3 for the child-name file
  bad_names : file_check names ≡ some r → Unprintable names store twig r
  -- refused by 18 for the length of the store's file
  bad_length : file_check names ≡ none → (StoreLength (length store) → ⊥) → refuse store_size 0 ≡ some r → Unprintable names store twig r
  -- refused by 19 or 23 to 25 for a record of the store's file
  bad_record : file_check names ≡ none → StoreLength (length store) → file_sound names store ≡ some r → Unprintable names store twig r
  -- refused by 4 to 8 for the twig
  bad_twig :
      file_check names ≡ none → StoreLength (length store) → file_sound names store ≡ none → twig_check twig ≡ some r →
      Unprintable names store twig r
  -- refused by 17 for the streams
  long_streams : file_check names ≡ none → StoreLength (length store) → file_sound names store ≡ none → twig_check twig ≡ none →
      max_bytes < stream_bytes store twig → refuse short_output 0 ≡ some r → Unprintable names store twig r
  -- refused by 17 for the matches
  long_matches : file_check names ≡ none → StoreLength (length store) → file_sound names store ≡ none → twig_check twig ≡ none →
      stream_bytes store twig ≤ max_bytes → max_bytes < match_bytes names store twig → refuse short_output 0 ≡ some r → Unprintable names store twig r

-- What the program prints, by the facts of its three files.
pub record PrintHolds (names store twig : List ℕ) : Type 0 where
  -- the program refuses nothing exactly if all facts hold, and then prints the matches
  pub takes : print_refusal names store twig ≡ none ↔ Printable names store twig
  pub matches : Printable names store twig → printed names store twig ≡ matches_text (file_matches (file_clues names) store twig)
  -- the program refuses by the first fact that fails and by no other, and then prints that refusal's line
  pub refuses : (r : Refusal) → print_refusal names store twig ≡ some r ↔ Unprintable names store twig r
  pub line : (r : Refusal) → Unprintable names store twig r → printed names store twig ≡ refusal_text r
