-- The program that prints matches: what it prints for the bytes of its three files, a missing file counting as empty.
use Rattle.std.specs.Prelude.{cond, ◌&&◌, List, [], ◌∷◌, ◌++◌, map, ℕ, zero, suc, ◌+◌, ◌*◌, ◌/◌, ◌%◌, length, ltb, leb, eqb}
use Rattle.std.proofs.Math.Option.{Option}
use Prim.Native.Char.{code}
use Prim.Native.String.{String, [] as nil, ◌∷◌ as ◌then◌}
use Rattle.basics.specs.Basics.{elim?, joined}
use Rattle.basics.specs.Limits.{record_size, max_bytes}
use Rattle.basics.specs.Refusals.{Refusal, check, first, short_output, store_size}
use Rattle.naming.specs.Names.{Clues, clues_of, file_check, read_names}
use Rattle.labelling.specs.Labels.{Label}
use Rattle.patterns.specs.Twigs.{read_twig, twig_check}
use Rattle.embeddings.specs.Matches.{Match, labels_words, match_words}
use Rattle.storage.specs.Store.{Element, elements, sound_check, root_of}
use Rattle.cut_calls.specs.Cutting.{streams, full_list}

-- the bytes of a text
unfoldable pub text : String → List ℕ
text nil = []
text (c then s) = code c ∷ text s

-- the byte that prints the digit 0
abbrev pub zero_digit : ℕ
zero_digit = 48

-- the decimal digits of a number below 10 ^ fuel
unfoldable pub digits : ℕ → ℕ → List ℕ
digits zero n = []
digits (suc fuel) n = let longer = digits fuel (n / 10) ++ ((zero_digit + n % 10) ∷ []) in cond (ltb n 10) ((zero_digit + n) ∷ []) longer

-- a number in decimal
unfoldable pub decimal : ℕ → List ℕ
decimal n = digits (suc n) n

-- texts joined by another text
unfoldable pub joined_by : List ℕ → List (List ℕ) → List ℕ
joined_by by [] = []
joined_by by (t ∷ []) = t
joined_by by (t ∷ u ∷ ts) = t ++ (by ++ joined_by by (u ∷ ts))

-- the text of a label: components joined by dots, the root as a single dot
unfoldable pub label_text : Label → List ℕ
label_text [] = text "."
label_text (x ∷ l) = joined_by (text ".") (map decimal (x ∷ l))

-- the line of a match: one label for each node of the twig
unfoldable pub match_line : Match → List ℕ
match_line m = joined_by (text " ") (map label_text m) ++ text "\n"

-- the text of matches: a line for each, and the count as the last line
unfoldable pub matches_text : List Match → List ℕ
matches_text ms = joined (map match_line ms) ++ (decimal (length ms) ++ text "\n")

-- the line of a refusal, as "refused 19 at 3"
unfoldable pub refusal_text : Refusal → List ℕ
refusal_text r = text "refused " ++ (decimal r.number ++ (text " at " ++ (decimal r.place ++ text "\n")))

-- the words of a file, little-endian
unfoldable pub file_words : List ℕ → List ℕ
file_words [] = []
file_words (a ∷ []) = []
file_words (a ∷ b ∷ bytes) = (a + 256 * b) ∷ file_words bytes

-- the check of a store's file by its length, which refuses by 18: a multiple of 40, not 0, at most 64,000 bytes
unfoldable pub store_file_check : ℕ → Option Refusal
store_file_check len = check (ltb 0 len && leb len max_bytes && eqb (len % (2 * record_size)) 0) store_size 0

-- the number of records of a store's file, 40 bytes each
unfoldable pub file_count : List ℕ → ℕ
file_count store = length store / (2 * record_size)

-- the elements of a store's file
unfoldable pub file_elements : List ℕ → List Element
file_elements store = elements (file_count store) (file_words store)

-- the matches of a twig's bytes in a store's file, under record 0's name as the root's
unfoldable pub file_matches : Clues → List ℕ → List ℕ → List Match
file_matches cl store twig =
    full_list cl (root_of (file_words store)) (read_twig twig) (file_elements store)

-- the check that words fit a buffer of 64,000 bytes, which refuses by 17
unfoldable pub buffer_check : List ℕ → Option Refusal
buffer_check ws = check (leb (2 * length ws) max_bytes) short_output 0

-- the program's checks, in this order: 1 to 3, 18, 19, 23 to 25, 4 to 8, 17 for the streams, 17 for the matches
unfoldable pub print_refusal : List ℕ → List ℕ → List ℕ → Option Refusal
print_refusal names store twig =
    let cl = clues_of (read_names names).table in
    first
    (file_check names
    ∷ store_file_check (length store)
    ∷ sound_check cl (file_count store) (file_words store)
    ∷ twig_check twig
    ∷ buffer_check (labels_words (joined (streams (read_twig twig) (file_elements store))))
    ∷ buffer_check (match_words (file_matches cl store twig))
    ∷ [])

-- what the program prints: the matches, or the line of the refusal
unfoldable pub printed : List ℕ → List ℕ → List ℕ → List ℕ
printed names store twig = elim? (print_refusal names store twig) (matches_text (file_matches (clues_of (read_names names).table) store twig)) refusal_text
