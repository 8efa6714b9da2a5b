-- The printed example: its store, and what is printed of it.
use Rattle.std.specs.Prelude.{List, [], ◌∷◌, ℕ, ◌/◌, ◌%◌}
use Rattle.storage.specs.Store.{store_words}
use Rattle.storage.specs.Examples.{element}
use Rattle.printouts.specs.Printing.{text}

-- the bytes of words in a file, little-endian
unfoldable pub word_bytes : List ℕ → List ℕ
word_bytes [] = []
word_bytes (w ∷ ws) = w % 256 ∷ w / 256 ∷ word_bytes ws

-- the store of the printed example: each next number is one above the last child's component, or 0
unfoldable pub garage_store : List ℕ
garage_store =
    word_bytes (store_words (
    element [] 0 3
    ∷ element (1 ∷ []) 1 1
    ∷ element (1 ∷ 0 ∷ []) 2 5
    ∷ element (1 ∷ 0 ∷ 1 ∷ []) 3 0
    ∷ element (1 ∷ 0 ∷ 2 ∷ []) 4 0
    ∷ element (1 ∷ 0 ∷ 4 ∷ []) 3 1
    ∷ element (1 ∷ 0 ∷ 4 ∷ 0 ∷ []) 4 0
    ∷ element (2 ∷ []) 1 0
    ∷ []))

-- the text of the printed example
unfoldable pub garage_text : List ℕ
garage_text = text "1 1.0.1 1.0.2\n1 1.0.1 1.0.4.0\n1 1.0.4 1.0.2\n1 1.0.4 1.0.4.0\n4\n"
