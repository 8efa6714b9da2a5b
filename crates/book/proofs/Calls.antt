-- The records of a good book: they are read as its elements, and a call on them is refused as the book refuses it.
use mathlib.Core.Path.{◌≡◌, refl, ap, subst, ◌∙◌, sym}
use mathlib.Core.List.{List, ◌++◌, map}
use mathlib.Core.Option
use mathlib.Core.Option.{Option, none, some, none-ne-some, some-injective}
use Prim.Native.Nat.{ℕ, ◌*◌, ◌≤◌, ◌<◌}
use native.Mathlib.Nat.{suc-mul}
use native.Mathlib.Omega.{arith}
use lib.ListN.{length, take, length-map}
use lib.Seq.{take_at}
use Rattle.basics.specs.Basics.{elim?, last, ◌∈◌}
use Rattle.basics.specs.Limits.{max_depth, record_size, max_component, max_records}
use Rattle.basics.specs.Refusals.{Refusal}
use Rattle.naming.specs.Names.{Table, Clues, clues_of, place_in, table_check}
use Rattle.labelling.specs.Numbers.{number}
use Rattle.labelling.specs.Labels.{Label, label_of}
use Rattle.storage.specs.Store.{sound_check, element_words, store_words, elements, find, records, Element}
use Rattle.store_calls.specs.Updates.{parent_check, given, entry_refusal, deletion_refusal, found_check}
use Rattle.book.specs.Book.{Line, Book, NewElement, Call, entry, deletion, line_element, line_at, in_order, book_words, book_refusal, book_elements}
use Rattle.basics.proofs.Lists.{for_map}
use Rattle.basics.proofs.Refusals.{first_skip, first_none}
use Rattle.naming.proofs.NameTables.{placed_at}
use Rattle.labelling.proofs.Number.{number_least, led_given, round_bound}
use Rattle.storage.proofs.Words.{Fit, length-store_words, records_store_words, elements_store_words}
use Rattle.book.proofs.InOrder.{length-in_order, in_order_iff, line_at-in_order}
use Rattle.book.proofs.Good.{Good, Suits}
use Rattle.book.proofs.Sound.{find_lines, sound}
use Rattle.store_calls.proofs.Parents.{ParentFacts, has_place, parent_check_iff}

-- whether an element is found hangs on its line alone
found_map : (o : Option Line) → found_check (Option.map line_element o) ≡ found_check o
unfolding found_check
found_map none = refl
found_map (some x) = refl

-- a book has as many elements as lines
pub length_elements : (b : Book) → length (book_elements b) ≡ length b
length_elements b = length-map (in_order b) line_element ∙ length-in_order b

module _ {cl : Clues} {root : ℕ} {b : Book} {g : List Label} (good : Good cl root b g) where
  -- every label of a good book fits a record
  fit : Fit (book_elements b)
  unfolding line_element
  fit = for_map line_element (λ e. length e.label ≤ max_depth) (in_order b) (λ x m. (good.lines x ((in_order_iff b x).0 m)).labelled.shallow)

  -- the words of a good book, with anything behind them, are taken back
  pub take_words : (ws : List ℕ) → take (record_size * length b) (store_words (book_elements b) ++ ws) ≡ book_words b
  unfolding book_words
  take_words ws = take_at (store_words (book_elements b)) ws (record_size * length b) (length-store_words (book_elements b) fit ∙ ap (λ n. record_size * n) (length_elements b))

  -- the element found for a label in a good book is that of the label's line
  pub find_book : (l : Label) → find l (book_elements b) ≡ Option.map line_element (line_at l b)
  find_book l = find_lines l (in_order b) ∙ ap (Option.map line_element) (line_at-in_order l b good.apart)

  module _ (slice : List ℕ) (laid : take (record_size * length b) slice ≡ book_words b) where
    -- a slice that begins with the words of a good book has the records of the book's elements
    records_book : records (length b) slice ≡ map element_words (book_elements b)
    unfolding book_words
    records_book =
        subst (λ n. take (record_size * n) slice ≡ store_words (book_elements b) → records n slice ≡ map element_words (book_elements b)) (length_elements b)
        (records_store_words (book_elements b) fit slice) laid

    -- a slice that begins with the words of a good book is read as the book's elements
    elements_book : elements (length b) slice ≡ book_elements b
    unfolding book_words
    elements_book =
        subst (λ n. take (record_size * n) slice ≡ store_words (book_elements b) → elements n slice ≡ book_elements b) (length_elements b)
        (elements_store_words (book_elements b) fit slice) laid

    -- a slice that begins with the words of a good book has sound records
    sound_book : sound_check cl (length b) slice ≡ none
    unfolding sound_check elim?
    sound_book = rw (records_book, sound good)

-- the number given below a line suits a new element whose name is in the line's clue, where depth and number allow it
suits_given : (cl : Clues) (x : Line) (new : NewElement) → new.name ∈ cl (last x.names) → length x.label < max_depth →
    given cl (line_element x) new.name ≤ max_component → Suits cl x new (given cl (line_element x) new.name)
unfolding given line_element elim?
suits_given cl x new in_clue deep room =
    let name = new.name in
    let clue : List ℕ = cl (last x.names) in
    let (k, place) = has_place name clue in_clue in
    let p = (placed_at name clue k place).0 in
    let e : elim? (place_in name clue) 0 (λ k. number (length clue) k x.next) ≡ number (length clue) k x.next = rw place in
    rw e (record {
      place = k;
      placed = place;
      least = number_least (length clue) k x.next p;
      room = rw e at room;
      leads = led_given name clue k x.next place;
      clue = omega arith;
      deep = deep;
      round = λ m h. omega (arith, round_bound (length clue) k x.next m p h, suc-mul m (length clue));
    })

-- an accepted entry: its parent's line, and that the number given below it suits
pub record Parented (cl : Clues) (b : Book) (new : NewElement) : Type 0 where
  pub line : Line
  pub found : line_at (label_of new.parent) b ≡ some line
  pub suits : Suits cl line new (given cl (line_element line) new.name)

-- an entry that the checks of its parent let pass has its parent's line
parented : (cl : Clues) (b : Book) (new : NewElement) →
    parent_check cl (Option.map line_element (line_at (label_of new.parent) b)) new.name ≡ none → Parented cl b new
unfolding line_element
parented cl b new e = go (line_at (label_of new.parent) b) refl ((parent_check_iff cl _ new.name).0 e)
  where
    go : (o : Option Line) → line_at (label_of new.parent) b ≡ o → ParentFacts cl (Option.map line_element o) new.name → Parented cl b new
    go none f p = absurd (none-ne-some _ p.stands)
    go (some x) f p =
        let same : line_element x ≡ p.parent = some-injective _ _ p.stands in
        let q = subst (λ (e : Element). (new.name ∈ cl e.name) × (length e.label < max_depth) × (given cl e new.name ≤ max_component)) (sym same)
        (p.in_clue, p.high, p.low) in
        record { line = x; found = f; suits = suits_given cl x new q.0 q.1 q.2 }

-- a slice that holds the records of a good book, under an accepted table
pub record Ready (rows : Table) (root : ℕ) (b : Book) (g : List Label) (slice : List ℕ) : Type 0 where
  pub table : table_check rows ≡ none
  pub good : Good (clues_of rows) root b g
  pub laid : take (record_size * length b) slice ≡ book_words b
  pub few : length b ≤ max_records

module _ {rows : Table} {root : ℕ} {b : Book} {g : List Label} {slice : List ℕ} (ready : Ready rows root b g slice) where
  -- the book's refusal of a call on the slice
  abbrev refused : Call → Option Refusal
  refused = book_refusal (clues_of rows) b (length slice)

  -- the records in the slice are sound
  pub sound_now : sound_check (clues_of rows) (length b) slice ≡ none
  sound_now = sound_book ready.good slice ready.laid

  -- the elements in the slice are the book's
  pub elements_now : elements (length b) slice ≡ book_elements b
  elements_now = elements_book ready.good slice ready.laid

  -- an entry is refused as the book refuses it
  pub entry_alike : (new : NewElement) → entry_refusal rows slice (length b) new.parent new.name ≡ refused (entry new)
  unfolding entry_refusal book_refusal
  entry_alike new = rw (ready.table, sound_now, elements_now, find_book ready.good (label_of new.parent)) (first_skip _ _)

  -- a deletion is refused as the book refuses it
  pub deletion_alike : (lw : List ℕ) → deletion_refusal rows slice (length b) lw ≡ refused (deletion lw)
  unfolding deletion_refusal book_refusal
  deletion_alike lw = rw (ready.table, sound_now, elements_now, find_book ready.good (label_of lw), found_map) (first_skip _ _)

  -- an entry that the book does not refuse has its parent's line
  pub accepted_entry : (new : NewElement) → refused (entry new) ≡ none → Parented (clues_of rows) b new
  unfolding book_refusal
  accepted_entry new e = parented (clues_of rows) b new (first_none _ _ (first_none _ _ (first_none _ _ e).1).1).0
