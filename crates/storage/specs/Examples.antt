-- Examples of records and stores.
use Rattle.std.specs.Prelude.{cond, List, [], ◌∷◌, ◌++◌, map, ℕ, replicate, eqb}
use Rattle.basics.specs.Basics.{up_to}
use Rattle.basics.specs.Limits.{record_size, max_depth}
use Rattle.basics.specs.Examples.{Check, is, shown}
use Rattle.naming.specs.Names.{clues_of}
use Rattle.naming.specs.Examples.{short_table}
use Rattle.labelling.specs.Labels.{Label}
use Rattle.storage.specs.Store.{Element, element_words, store_words, root_of, element_at, sound_check}

-- an element with two payload words
unfoldable pub element_of : Label → ℕ → ℕ → ℕ → ℕ → Element
element_of l name next p0 p1 = record { label = l; name = name; next = next; payload0 = p0; payload1 = p1 }

-- an element whose payload words are 0
unfoldable pub element : Label → ℕ → ℕ → Element
element l name next = record { label = l; name = name; next = next; payload0 = 0; payload1 = 0 }

-- a store under the loop table that goes down to depth 15
unfoldable pub deep_store : List ℕ
deep_store = store_words (map (λ depth. element (replicate depth 0) 0 (cond (eqb depth max_depth) 0 1)) (up_to 16)) ++ replicate record_size 7

-- a store of a root whose numbers are used up
unfoldable pub used_up : List ℕ
used_up = element_words (element [] 0 65535)

-- a record whose words are all nines
unfoldable pub torn : List ℕ
torn = replicate record_size 9

-- a store under the loop table in which an element's parent is missing
unfoldable pub orphaned : List ℕ
orphaned = store_words (element [] 0 1 ∷ element (0 ∷ 0 ∷ []) 0 0 ∷ [])

-- a store of a root whose name is above 63
unfoldable pub misnamed : List ℕ
misnamed = element_words (element [] 64 0)

-- a store of a root whose clue is empty under the loop table, though it has a next number
unfoldable pub misnumbered : List ℕ
misnumbered = element_words (element [] 1 1)

-- examples of the root's name and of the element with a label
unfoldable pub record_checks : List Check
record_checks =
    -- the root's name is record 0's
    is (root_of (element_words (element_of [] 3 0 8 9) ++ element_words (element_of [] 4 0 8 9)) ∷ []) (3 ∷ [])
    -- a label finds its element
    ∷ is (element_words (element_at (1 ∷ []) (element_of [] 0 3 10 11 ∷ element_of (1 ∷ []) 1 2 12 13 ∷ [])))
    (element_words (element_of (1 ∷ []) 1 2 12 13))
    ∷ []

-- what the check of records says of words in which as many records are in use, under the bench's names
unfoldable pub soundness : ℕ → List ℕ → List ℕ
soundness count ws = shown (sound_check (clues_of short_table) count ws)

-- examples of records that are not sound, by 19, 23, 24 and 25
unfoldable pub rule_checks : List Check
rule_checks =
    -- layout: an unused component isn't 0, record 0 has depth 1, or a later record depth 0
    is (soundness 1 (0 ∷ 1 ∷ replicate 18 0)) (19 ∷ 0 ∷ [])
    ∷ is (soundness 1 (element_words (element (0 ∷ []) 0 0))) (19 ∷ 0 ∷ [])
    ∷ is (soundness 2 (store_words (element [] 0 1 ∷ element [] 0 1 ∷ []))) (19 ∷ 1 ∷ [])
    -- order: a label twice; parent: none stands
    ∷ is (soundness 3 (store_words (element [] 0 1 ∷ element (0 ∷ []) 1 0 ∷ element (0 ∷ []) 1 0 ∷ []))) (23 ∷ 2 ∷ [])
    ∷ is (soundness 2 (store_words (element [] 0 1 ∷ element (0 ∷ 0 ∷ []) 2 0 ∷ []))) (23 ∷ 1 ∷ [])
    -- name: record 0's above 63, a test for a vehicle, or anything below a note
    ∷ is (soundness 1 (element_words (element [] 64 0))) (24 ∷ 0 ∷ [])
    ∷ is (soundness 2 (store_words (element [] 0 1 ∷ element (0 ∷ []) 2 0 ∷ []))) (24 ∷ 1 ∷ [])
    ∷ is (soundness 2 (store_words (element [] 5 0 ∷ element (0 ∷ []) 1 0 ∷ []))) (24 ∷ 1 ∷ [])
    -- last component: the parent's next number is 0; next number: a note has one
    ∷ is (soundness 2 (store_words (element [] 0 0 ∷ element (0 ∷ []) 1 0 ∷ []))) (25 ∷ 1 ∷ [])
    ∷ is (soundness 1 (element_words (element [] 5 1))) (25 ∷ 0 ∷ [])
    -- of two rules broken by one record the first decides, and of two records the first
    ∷ is (soundness 2 (store_words (element [] 0 0 ∷ element (0 ∷ []) 2 0 ∷ []))) (24 ∷ 1 ∷ [])
    ∷ is (soundness 3 (store_words (element [] 0 0 ∷ element (0 ∷ []) 1 0 ∷ []) ++ torn)) (25 ∷ 1 ∷ [])
    ∷ []
