-- Examples of new store, entry and deletion: what each answers, and every word that it leaves.
use Rattle.std.specs.Prelude.{List, [], ◌∷◌, ◌++◌, ℕ, replicate}
use Rattle.basics.specs.Examples.{Check, is, shown}
use Rattle.naming.specs.Examples.{short_table}
use Rattle.labelling.specs.Labels.{label_words}
use Rattle.storage.specs.Store.{element_words, store_words}
use Rattle.storage.specs.Examples.{element_of}
use Rattle.store_calls.specs.Updates.{Answer, new_store, enter, delete}

-- the bench's store: a garage with two vehicles, the first of which has a test
unfoldable pub bench_store : List ℕ
bench_store = store_words (element_of [] 0 3 10 11 ∷ element_of (1 ∷ []) 1 2 12 13 ∷ element_of (1 ∷ 0 ∷ []) 2 0 14 15 ∷ element_of (2 ∷ []) 1 0 16 17 ∷ [])

-- what a call answers and leaves, in one list
unfoldable pub answered : Answer → List ℕ
answered a = shown a.refusal ++ (a.count ∷ (a.label ++ a.slice))

-- examples of new store, entry and deletion
unfoldable pub update_checks : List Check
update_checks =
    -- a new store writes record 0, and leaves the words past it
    is (answered (new_store (replicate 40 7) 3 8 9)) (1 ∷ (element_words (element_of [] 3 0 8 9) ++ replicate 20 7))
    -- a refused new store answers the count 0
    ∷ is (answered (new_store (replicate 21 7) 3 8 9)) (18 ∷ 0 ∷ 0 ∷ replicate 21 7)
    -- A note under the first vehicle gets 3 and stands after the test, the second vehicle moves up,
    -- and the next number is 4.
    ∷ is (answered (enter short_table (bench_store ++ replicate 40 7) 4 (label_words (1 ∷ [])) 5 18 19))
    (5 ∷ (label_words (1 ∷ 3 ∷ []) ++ (store_words (
    element_of [] 0 3 10 11
    ∷ element_of (1 ∷ []) 1 4 12 13
    ∷ element_of (1 ∷ 0 ∷ []) 2 0 14 15
    ∷ element_of (1 ∷ 3 ∷ []) 5 0 18 19
    ∷ element_of (2 ∷ []) 1 0 16 17
    ∷ []) ++ replicate 20 7)))
    -- a refused entry answers the count it was given and sixteen zeros
    ∷ is (answered (enter short_table bench_store 4 (label_words (1 ∷ [])) 5 18 19)) (13 ∷ 0 ∷ 4 ∷ (replicate 16 0 ++ bench_store))
    -- the first vehicle goes with its test: no next number moves, and the freed records are zeros
    ∷ is (answered (delete short_table bench_store 4 (label_words (1 ∷ []))))
    (2 ∷ (store_words (element_of [] 0 3 10 11 ∷ element_of (2 ∷ []) 1 0 16 17 ∷ []) ++ replicate 40 0))
    -- a refused deletion answers the count it was given
    ∷ is (answered (delete short_table bench_store 4 (label_words []))) (14 ∷ 0 ∷ 4 ∷ bench_store)
    ∷ []
