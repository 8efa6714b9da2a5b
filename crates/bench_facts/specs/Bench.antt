-- The bench checks that the paper marks with a star, and the examples of source document 004:
-- what is computed, and what is expected.
use Rattle.std.specs.Prelude.{List, [], ◌∷◌, ◌++◌, map, ℕ, ◌+◌, replicate}
use Rattle.std.proofs.Math.Option.{some}
use Rattle.basics.specs.Basics.{elim?, last}
use Rattle.naming.specs.Names.{Table, led, clues_of, read_names}
use Rattle.labelling.specs.Numbers.{number, article_number}
use Rattle.labelling.specs.Labels.{Label, label_of, label_words, decode_call, kinship_call}
use Rattle.store_calls.specs.Updates.{Answer, new_store}
use Rattle.printouts.specs.Printing.{text, joined_by, label_text}
use Rattle.book.specs.Book.{Call, entry, deletion, answer}
use Rattle.basics.specs.Examples.{shown, told, Check, is}
use Rattle.naming.specs.Examples.{bench_table}

-- The checks of the bench.

-- the labels that the entries among some calls answer, from an answer on
unfoldable pub labels_answered : Table → Answer → List Call → List Label
labels_answered rows a [] = []
labels_answered rows a (entry new ∷ cs) =
    let b = answer rows a.slice a.count (entry new) in label_of b.label ∷ labels_answered rows b cs
labels_answered rows a (deletion lw ∷ cs) = labels_answered rows (answer rows a.slice a.count (deletion lw)) cs

-- the labels that the entries among some calls answer from a new store on, whose root has the name 0
unfoldable pub labels_given : Table → List Call → List Label
labels_given rows calls = labels_answered rows (new_store (replicate 240 7) 0 8 9) calls

-- the numbers that the entries among some calls give from a new store on
unfoldable pub numbers_given : List Call → List ℕ
numbers_given calls = map last (labels_given bench_table calls)

-- an entry of a name under a label, with the payload words 8 and 9
unfoldable pub entry_under : Label → ℕ → Call
entry_under l name = entry (record { parent = label_words l; name = name; payload0 = 8; payload1 = 9 })

-- three vehicles under the root
unfoldable pub vehicles : List Call
vehicles = entry_under [] 1 ∷ entry_under [] 1 ∷ entry_under [] 1 ∷ []

-- the nine checks that the paper marks with a star
unfoldable pub starred : List Check
starred =
    -- under the root, n 1, three vehicles get 0, 1, 2
    is (numbers_given vehicles) (0 ∷ 1 ∷ 2 ∷ [])
    -- after three vehicles 0 is deleted and a vehicle entered, which gets 3
    ∷ is (numbers_given (vehicles ++ (deletion (label_words (0 ∷ [])) ∷ entry_under [] 1 ∷ []))) (0 ∷ 1 ∷ 2 ∷ 3 ∷ [])
    -- the number for n 3, k 2, f 5 is 5
    ∷ is (number 3 2 5 ∷ []) (5 ∷ [])
    -- under a vehicle, n 2, the children test, note, test, note, note get 0, 1, 2, 3, 5
    ∷ is (numbers_given (entry_under [] 1 ∷ map (entry_under (0 ∷ [])) (2 ∷ 5 ∷ 2 ∷ 5 ∷ 5 ∷ []))) (0 ∷ 0 ∷ 1 ∷ 2 ∷ 3 ∷ 5 ∷ [])
    -- under a test, n 3, the children axle, curve, axle get 1, 2, 4
    ∷ is (numbers_given (entry_under [] 1 ∷ entry_under (0 ∷ []) 2 ∷ map (entry_under (0 ∷ 0 ∷ [])) (3 ∷ 4 ∷ 3 ∷ []))) (0 ∷ 0 ∷ 1 ∷ 2 ∷ 4 ∷ [])
    -- the label 1.2.4.0 decodes to 0 1 2 3 4, the other eleven of the sixteen places 0
    ∷ is (decode_call bench_table 0 (label_words (1 ∷ 2 ∷ 4 ∷ 0 ∷ []))).names (0 ∷ 1 ∷ 2 ∷ 3 ∷ 4 ∷ replicate 11 0)
    -- the label 0.0.0.0 is refused by 16 at 4: a note has no children
    ∷ is (shown (decode_call bench_table 0 (label_words (0 ∷ 0 ∷ 0 ∷ 0 ∷ []))).refusal) (16 ∷ 4 ∷ [])
    -- kinship of the empty label to 1.0 is 2
    ∷ is (told (kinship_call (label_words []) (label_words (1 ∷ 0 ∷ [])))) (2 ∷ [])
    -- kinship of 1.0 to 1.0 is 0
    ∷ is (told (kinship_call (label_words (1 ∷ 0 ∷ [])) (label_words (1 ∷ 0 ∷ [])))) (0 ∷ [])
    ∷ []

-- The examples of source document 004.

-- The document type of source document 004:
-- 0 bib, 1 book, 2 author, 3 title, 4 chapter, 5 section, 6 text, 7 bold, 8 keyword, 9 emph.
unfoldable pub article_file : List ℕ
article_file =
    0 ∷ 1 ∷ 1 ∷ 2 ∷ 1 ∷ 3 ∷ 1 ∷ 4 ∷ 4 ∷ 3 ∷ 4 ∷ 5 ∷ 5 ∷ 3 ∷ 5 ∷ 6 ∷ 5 ∷ 5 ∷ 6 ∷ 7 ∷ 6 ∷ 8 ∷ 6 ∷ 9 ∷
    7 ∷ 7 ∷ 7 ∷ 8 ∷ 7 ∷ 9 ∷ 8 ∷ 7 ∷ 8 ∷ 8 ∷ 8 ∷ 9 ∷ 9 ∷ 7 ∷ 9 ∷ 8 ∷ 9 ∷ 9 ∷ []

-- the table of source document 004's names, its file read into rows
unfoldable pub article_table : Table
article_table = (read_names article_file).table

-- Figure 1 of source document 004 down to the text: a book with two authors, a title and a chapter,
-- which has a title and a section, which has a title and a text; then a second book.
unfoldable pub figure : List Call
figure =
    entry_under [] 1 ∷
    (map (entry_under (0 ∷ [])) (2 ∷ 2 ∷ 3 ∷ 4 ∷ []) ++
    (map (entry_under (0 ∷ 5 ∷ [])) (3 ∷ 5 ∷ []) ++ (map (entry_under (0 ∷ 5 ∷ 1 ∷ [])) (3 ∷ 6 ∷ []) ++ (entry_under [] 1 ∷ []))))

-- the examples of source document 004
unfoldable pub article_checks : List Check
article_checks =
    -- figure 1: chapter gets 0.5 after title 0.4, text gets 0.5.1.1,
    -- and the second book does not get the first one's label
    is (joined_by (text " ") (map label_text (labels_given article_table figure))) (text "0 0.0 0.3 0.4 0.5 0.5.0 0.5.1 0.5.1.0 0.5.1.1 1")
    -- example 3.1: with y 4, n 3, k 2 the number is 5 by either rule
    ∷ is (article_number 3 2 (some 4) ∷ number 3 2 (4 + 1) ∷ []) (5 ∷ 5 ∷ [])
    -- section 3.1: under a book 8 leads to a chapter
    ∷ is (elim? (led (clues_of article_table 1) 8) [] (λ c. c ∷ [])) (4 ∷ [])
    -- example 3.2: 0.5.1.1 is bib, book, chapter, section, text
    ∷ is (decode_call article_table 0 (label_words (0 ∷ 5 ∷ 1 ∷ 1 ∷ []))).names (0 ∷ 1 ∷ 4 ∷ 5 ∷ 6 ∷ replicate 11 0)
    -- the corner: the article's formula gives the second book the first one's number again
    ∷ is (article_number 1 0 (some 0) ∷ number 1 0 (0 + 1) ∷ []) (0 ∷ 1 ∷ [])
    ∷ []
