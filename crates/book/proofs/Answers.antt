-- What a call on the records of a good book answers and leaves, as one equation for each way out.
use mathlib.Core.Path.{refl, ◌≡◌, sym, ◌∙◌, ap}
use mathlib.Core.List.{List, ◌++◌, ◌∷◌, [], map}
use mathlib.Core.Option
use mathlib.Core.Option.{Option, none, some, some-ne-none}
use Prim.Native.Nat.{ℕ, ◌+◌, ◌*◌, ◌-◌, suc, ◌≤◌}
use native.Mathlib.Numerals.{add-one}
use native.Mathlib.Omega.{arith}
use lib.ListN.{length, replicate, length-map}
use Rattle.basics.specs.Basics.{elim?, ◌∈◌, over}
use Rattle.basics.specs.Limits.{label_size, record_size, max_records}
use Rattle.basics.specs.Refusals.{Refusal}
use Rattle.naming.specs.Names.{Table, Clues, clues_of}
use Rattle.labelling.specs.Labels.{Label, label_of, label_words}
use Rattle.storage.specs.Store.{element_at, elements}
use Rattle.store_calls.specs.Updates.{entered, Answer, enter, delete, deletion_refusal, entry_refusal, given, without, found_check}
use Rattle.book.specs.Book.{line_element, Book, NewElement, Call, answer, book_after, entry, book_elements, deletion, book_refusal, entry_book, book_words, written_book, Line, struck, line_at, in_order, moved}
use Rattle.book.specs.RefusedCalls.{RefusalHolds}
use Rattle.store_calls.proofs.Updates.{refusal_of_lem, enter_refused, delete_refused}
use Rattle.basics.proofs.Refusals.{first_none}
use Rattle.store_calls.proofs.Placed.{space_iff}
use Rattle.book.proofs.InOrder.{line_at_mem, struck_in_order}
use Rattle.book.proofs.Good.{Good, good_entry}
use Rattle.book.proofs.Placing.{placed_lines, without_lines}
use Rattle.book.proofs.Calls.{Ready, Parented, deletion_alike, entry_alike, accepted_entry, elements_now, find_book, length_elements}

-- a deletion is no entry
not_entry : {lw : List ℕ} {new : NewElement} → deletion lw ≡ entry new → ⊥
not_entry e = let z : ◌≡◌ {A = ℕ} 0 1 = cc in omega arith

-- the elements after an accepted entry are those of the book after it
entered_book : {cl : Clues} {root : ℕ} {b : Book} {g : List Label} → Good cl root b g → (new : NewElement) (a : Parented cl b new) →
    entered cl (book_elements b) (line_element a.line) new.name new.payload0 new.payload1 ≡
    book_elements (entry_book b a.line (given cl (line_element a.line) new.name) new)
unfolding entered line_element
entered_book {cl} {b = b} good new a =
    placed_lines good a.line (line_at_mem (label_of new.parent) b a.line a.found).0 (given cl (line_element a.line) new.name) new a.suits.least.high

module _ {rows : Table} {root : ℕ} {b : Book} {g : List Label} {slice : List ℕ} (ready : Ready rows root b g slice) where
  -- the answer to a call on the slice
  abbrev reply : Call → Answer
  reply = answer rows slice (length b)

  -- the book after a call on the slice
  abbrev after : Call → Book
  after = book_after (clues_of rows) b (length slice)

  -- a call is refused as the book refuses it
  pub refused_alike_lem : (c : Call) → (reply c).refusal ≡ book_refusal (clues_of rows) b (length slice) c
  unfolding answer enter delete
  refused_alike_lem (entry new) = refusal_of_lem _ _ _ refl (λ r. refl) ∙ entry_alike ready new
  refused_alike_lem (deletion lw) = refusal_of_lem _ _ _ refl (λ r. refl) ∙ deletion_alike ready lw

  -- the checks of an entry on the slice refuse as the answer to the entry does
  entry_refusal_lem : (new : NewElement) {o : Option Refusal} → (reply (entry new)).refusal ≡ o →
      entry_refusal rows slice (length b) new.parent new.name ≡ o
  entry_refusal_lem new e = entry_alike ready new ∙ sym (refused_alike_lem (entry new)) ∙ e

  -- the checks of a deletion on the slice refuse as the answer to the deletion does
  deletion_refusal_lem : (lw : List ℕ) {o : Option Refusal} → (reply (deletion lw)).refusal ≡ o → deletion_refusal rows slice (length b) lw ≡ o
  deletion_refusal_lem lw e = deletion_alike ready lw ∙ sym (refused_alike_lem (deletion lw)) ∙ e

  -- a refused call writes nothing into the book
  book_stays_lem : (c : Call) (r : Refusal) → (reply c).refusal ≡ some r → after c ≡ b
  unfolding book_after elim?
  book_stays_lem c r e = rw (sym (refused_alike_lem c) ∙ e)

  -- a refused entry answers the count it was given and sixteen zeros, and leaves the slice
  entry_refused : (new : NewElement) (r : Refusal) → (reply (entry new)).refusal ≡ some r →
      reply (entry new) ≡ record { refusal = some r; count = length b; label = replicate label_size 0; slice = slice }
  unfolding answer
  entry_refused new = enter_refused rows slice (length b) new.parent new.name new.payload0 new.payload1

  -- a refused deletion answers the count it was given, and leaves the slice
  deletion_refused : (lw : List ℕ) (r : Refusal) → (reply (deletion lw)).refusal ≡ some r →
      reply (deletion lw) ≡ record { refusal = some r; count = length b; label = []; slice = slice }
  unfolding answer
  deletion_refused = delete_refused rows slice (length b)

  -- a refused call leaves what demand 3 says of it
  pub refused_holds : (c : Call) (r : Refusal) → (reply c).refusal ≡ some r → RefusalHolds rows (length b) b (after c) slice c
  refused_holds (entry new) r e =
      let f = entry_refused new r e in
      record {
        book_stays = book_stays_lem (entry new) r e;
        slice_stays = ap (λ (a : Answer). a.slice) f;
        count_stays = ap (λ (a : Answer). a.count) f;
        zeros = λ new' d. ap (λ (a : Answer). a.label) f;
      }
  refused_holds (deletion lw) r e =
      let f = deletion_refused lw r e in
      record {
        book_stays = book_stays_lem (deletion lw) r e;
        slice_stays = ap (λ (a : Answer). a.slice) f;
        count_stays = ap (λ (a : Answer). a.count) f;
        zeros = λ new' d. absurd (not_entry d);
      }

  module _ (new : NewElement) (e : (reply (entry new)).refusal ≡ none) where
    -- an accepted entry has its parent's line in the book
    pub parent : Parented (clues_of rows) b new
    parent = accepted_entry ready new (sym (refused_alike_lem (entry new)) ∙ e)

    -- the number that an accepted entry is given
    abbrev pub num : ℕ
    num = given (clues_of rows) (line_element parent.line) new.name

    -- the book after an accepted entry
    abbrev pub lines : Book
    lines = entry_book b parent.line num new

    -- the parent's line of an accepted entry stands in the book before it
    stood : parent.line ∈ b
    stood = (line_at_mem (label_of new.parent) b parent.line parent.found).0

    -- the book after an accepted entry has the new line and the moved ones
    pub entry_book_lem : after (entry new) ≡ lines
    unfolding book_after written_book elim?
    entry_book_lem = rw (sym (refused_alike_lem (entry new)) ∙ e, parent.found)

    -- the book after an accepted entry is good
    pub entry_good : Good (clues_of rows) root lines ((parent.line.label ++ (num ∷ [])) ∷ g)
    entry_good = good_entry ready.good stood parent.suits

    -- the book after an accepted entry has one line more
    pub entry_length : length lines ≡ length b + 1
    entry_length = ap suc (length-map b (moved _ _)) ∙ sym (add-one (length b))

    -- the book after an accepted entry has at most 4,096 lines
    pub entry_few : length lines ≤ max_records
    unfolding book_refusal
    entry_few =
        let passed = sym (refused_alike_lem (entry new)) ∙ e in
        let space = (first_none _ _ (first_none _ _ (first_none _ _ (first_none _ _ passed).1).1).1).0 in
        omega (arith, entry_length, ((space_iff (length slice) (length b)).0 space).1)

    -- the element that an accepted entry finds is that of its parent's line
    element_now : element_at (label_of new.parent) (elements (length b) slice) ≡ line_element parent.line
    unfolding element_at elim?
    element_now = rw (elements_now ready, find_book ready.good (label_of new.parent) ∙ ap (Option.map line_element) parent.found)

    -- an accepted entry answers one more record and the new label, and leaves the records of the book after it
    pub entry_answer : reply (entry new) ≡
        record { refusal = none; count = length b + 1; label = label_words (parent.line.label ++ (num ∷ [])); slice = over (book_words lines) slice }
    unfolding answer enter elim? book_words
    entry_answer =
        rw (entry_refusal_lem new e, element_now, elements_now ready, entered_book ready.good new parent)
        (unfold line_element in refl)

  module _ (lw : List ℕ) (e : (reply (deletion lw)).refusal ≡ none) where
    -- the lines that an accepted deletion leaves
    abbrev pub rest : Book
    rest = struck (label_of lw) b

    -- the book after an accepted deletion is the lines that it leaves
    pub deletion_book : after (deletion lw) ≡ rest
    unfolding book_after written_book elim?
    deletion_book = rw (sym (refused_alike_lem (deletion lw)) ∙ e)

    -- a line with the label of an accepted deletion stood
    pub deletion_found : (x : Line) × (line_at (label_of lw) b ≡ some x)
    unfolding book_refusal
    deletion_found =
        let passed = sym (refused_alike_lem (deletion lw)) ∙ e in
        found (line_at (label_of lw) b) refl (first_none _ _ (first_none _ _ (first_none _ _ (first_none _ _ passed).1).1).1).0
      where
        found : (o : Option Line) → line_at (label_of lw) b ≡ o → found_check o ≡ none → (x : Line) × (line_at (label_of lw) b ≡ some x)
        found none f h = unfold found_check in absurd (some-ne-none _ h)
        found (some x) f h = (x, f)

    -- the elements that an accepted deletion leaves are those of the book after it
    left_book : without (label_of lw) (elements (length b) slice) ≡ book_elements rest
    left_book =
        ap (without (label_of lw)) (elements_now ready) ∙ without_lines (label_of lw) (in_order b) ∙
        ap (map line_element) (struck_in_order (label_of lw) b ready.good.apart)

    -- an accepted deletion answers how many lines are left, and leaves their records and zeros
    pub deletion_answer : reply (deletion lw) ≡
        record {
          refusal = none;
          count = length rest;
          label = [];
          slice = over (book_words rest ++ replicate (record_size * (length b - length rest)) 0) slice;
        }
    unfolding answer delete elim? book_words
    deletion_answer = rw (deletion_refusal_lem lw e, left_book, length_elements rest)
