-- Cutting: the stream of one name, or of all, written from a store.
use Rattle.std.specs.Prelude.{◌≡◌, List, [], ◌∷◌, map, ℕ, ◌*◌, length, take}
use Rattle.std.proofs.Math.Option.{Option, none}
use Rattle.basics.specs.Basics.{elim?, keep}
use Rattle.basics.specs.Limits.{label_size}
use Rattle.basics.specs.Refusals.{Refusal, first}
use Rattle.naming.specs.Names.{Table, clues_of, table_check, Clues}
use Rattle.labelling.specs.Labels.{Label}
use Rattle.patterns.specs.Twigs.{Twig, name_check, wanted}
use Rattle.embeddings.specs.Matches.{asks, labels_words, Match, matches}
use Rattle.storage.specs.Store.{Element, elements, size_check, sound_check}
use Rattle.basics.specs.Outputs.{Listing, listed, room_check}

-- the stream of a name: the labels of the elements that it asks for
unfoldable pub stream : ℕ → List Element → List Label
stream want es = map (λ e. e.label) (keep (λ e. asks want e.name) es)

-- the streams of a twig, one for each node: a leaf's is cut by its name, an inner node has none
unfoldable pub streams : Twig → List Element → List (List Label)
streams t es = map (λ r. elim? r [] (λ want. stream want es)) (wanted t)

-- The full list of matches of a twig over elements:
-- each leaf's stream has the labels that its name asks for, whatever the room.
unfoldable pub full_list : Clues → ℕ → Twig → List Element → List Match
full_list cl root t es = matches cl root t (streams t es)

-- cutting is refused by 22, 18, 19, 23 to 25, 7, 17, in this order
unfoldable pub cut_refusal : Table → List ℕ → ℕ → ℕ → List ℕ → Option Refusal
cut_refusal rows ws count want out =
    first
    (table_check rows
    ∷ size_check (length ws) count
    ∷ sound_check (clues_of rows) count ws
    ∷ name_check want 0
    ∷ room_check (labels_words (stream want (elements count ws))) out
    ∷ [])

-- cutting answers how many labels the stream has, and writes them to the output
unfoldable pub cut : Table → List ℕ → ℕ → ℕ → List ℕ → Listing
cut rows ws count want out =
    let ls = stream want (elements count ws) in
    listed (cut_refusal rows ws count want out) (length ls) (labels_words ls) out

-- the words of the stream that cutting wrote
abbrev pub cut_words : Listing → List ℕ
cut_words a = take (label_size * a.count) a.output

-- accepted answers to cutting from one store, one for each name, each into an output of its own
abbrev pub Cuts : Table → List ℕ → ℕ → List ℕ → List Listing → Type 0
Cuts rows ws count [] [] = Unit {0}
Cuts rows ws count [] (a ∷ cuts) = ⊥
Cuts rows ws count (want ∷ wants) [] = ⊥
Cuts rows ws count (want ∷ wants) (a ∷ cuts) =
    ((out : List ℕ) × (a ≡ cut rows ws count want out) × (a.refusal ≡ none)) × Cuts rows ws count wants cuts
