-- What every run of calls leaves.
use mathlib.Core.Path.{◌≡◌, refl, sym, subst, ◌∙◌}
use mathlib.Core.Bool.{not}
use mathlib.Core.List.{List, append_assoc, ◌∷◌, []}
use mathlib.Core.Option.{some, none, Option}
use Prim.Native.Nat.{ℕ, ◌*◌, ◌≤◌}
use native.Mathlib.Omega.{arith}
use lib.ListN.{length, take}
use lib.Dec.{leb→le, leb}
use Rattle.basics.specs.Basics.{elim?, over, joined, last}
use Rattle.basics.specs.Limits.{record_size, max_name, max_records}
use Rattle.basics.specs.Refusals.{Refusal, bad_root}
use Rattle.naming.specs.Names.{Table, Clues, clues_of, table_check, root_check, is_name}
use Rattle.labelling.specs.Labels.{Label, label_of, label_words, within}
use Rattle.storage.specs.Store.{store_words, element_words}
use Rattle.store_calls.specs.Updates.{Answer, new_store, new_store_refusal}
use Rattle.book.specs.Book.{Book, NewElement, Call, book_words, given_out, answer, book_after, deletion, entry, Run, in_order, insert_line, line_element, opened, root_line, called, struck, Line}
use Rattle.basics.proofs.Lists.{length_keep}
use Rattle.store_calls.proofs.Updates.{refusal_of_lem}
use Rattle.basics.proofs.Refusals.{taken, check_none, first_none}
use Rattle.labelling.proofs.LabelWords.{label_of-label_words}
use Rattle.book.proofs.Good.{Good, good_deletion, good_opening}
use Rattle.book.proofs.Calls.{Ready, take_words}
use Rattle.book.proofs.Answers.{entry_good, entry_length, deletion_answer, entry_answer, deletion_book, entry_book_lem, refused_holds, entry_few}

-- what a run leaves: as many records as lines, their words, and a good book
pub record Left (cl : Clues) (root : ℕ) (w : List ℕ) (n : ℕ) (b : Book) (g : List Label) : Type 0 where
  pub counted : n ≡ length b
  pub words : w ≡ book_words b
  pub good : Good cl root b g
  pub few : length b ≤ max_records

-- what an answer leaves, as what a run leaves
abbrev LeftBy : Clues → ℕ → Answer → Book → List Label → Type 0
LeftBy cl root a = Left cl root (take (record_size * a.count) a.slice) a.count

-- a refused call gives out no label
pub given_refused : (a : Answer) (g : List Label) (r : Refusal) (c : Call) → a.refusal ≡ some r → given_out a c g ≡ g
unfolding given_out elim?
given_refused a g r (entry new) e = rw e
given_refused a g r (deletion lw) e = refl

module _ {rows : Table} {root : ℕ} {b : Book} {g : List Label} {slice : List ℕ} (ready : Ready rows root b g slice) where
  -- what a call on the slice leaves, as what a run leaves
  abbrev Leaves : Call → Type 0
  Leaves c =
      LeftBy (clues_of rows) root (answer rows slice (length b) c) (book_after (clues_of rows) b (length slice) c)
      (given_out (answer rows slice (length b) c) c g)

  -- an accepted entry leaves the records of the book after it
  entry_leaves : (new : NewElement) → (answer rows slice (length b) (entry new)).refusal ≡ none → Leaves (entry new)
  unfolding given_out elim? over book_words
  entry_leaves new e =
      let good = entry_good ready new e in
      let long = entry_length ready new e in
      rw (entry_answer ready new e, entry_book_lem ready new e, label_of-label_words) (record {
        counted = sym long;
        words = rw (sym long) (take_words good _);
        good = good;
        few = entry_few ready new e;
      })

  -- an accepted deletion leaves the records of the book after it
  deletion_leaves : (lw : List ℕ) → (answer rows slice (length b) (deletion lw)).refusal ≡ none → Leaves (deletion lw)
  unfolding given_out elim? over book_words
  deletion_leaves lw e =
      let good = good_deletion (label_of lw) ready.good in
      rw (deletion_answer ready lw e, deletion_book ready lw e) (record {
        counted = refl;
        words = rw append_assoc (take_words good _);
        good = good;
        few = unfold struck in omega (arith, length_keep (λ (x : Line). not (within (label_of lw) x.label)) b, ready.few);
      })

  -- every call leaves the records of the book after it
  leaves : (c : Call) → Leaves c
  leaves c = go (answer rows slice (length b) c).refusal refl
    where
      refused : (c : Call) (r : Refusal) → (answer rows slice (length b) c).refusal ≡ some r → Leaves c
      refused c r e =
          let h = refused_holds ready c r e in
          rw (given_refused (answer rows slice (length b) c) g r c e, h.book_stays, h.slice_stays, h.count_stays) (record {
            counted = refl;
            words = ready.laid;
            good = ready.good;
            few = ready.few;
          })

      accepted : (c : Call) → (answer rows slice (length b) c).refusal ≡ none → Leaves c
      accepted (entry new) e = entry_leaves new e
      accepted (deletion lw) e = deletion_leaves lw e

      go : (o : Option Refusal) → (answer rows slice (length b) c).refusal ≡ o → Leaves c
      go none e = accepted c e
      go (some r) e = refused c r e

-- an accepted new store leaves the record of the opened book
opening : (rows : Table) (slice : List ℕ) (root p0 p1 : ℕ) → (new_store slice root p0 p1).refusal ≡ none →
    LeftBy (clues_of rows) root (new_store slice root p0 p1) (root_line root p0 p1 ∷ []) ([] ∷ [])
unfolding new_store new_store_refusal root_check is_name over book_words store_words joined element_words label_words in_order insert_line line_element last
opening rows slice root p0 p1 e =
    let passed = sym (refusal_of_lem _ _ _ refl (λ r. refl)) ∙ e in
    rw (taken _ _ _ passed) (record {
      counted = refl;
      words = refl;
      good = good_opening (clues_of rows) root p0 p1 (leb→le root max_name (check_none (leb root max_name) bad_root 0 (first_none _ _ (first_none _ _ passed).1).0));
      few = omega arith;
    })

-- every run leaves as many records as lines, their words, and a good book
pub left : (rows : Table) (root : ℕ) {w : List ℕ} {n : ℕ} {b : Book} {g : List Label} →
    table_check rows ≡ none → Run rows root w n b g → Left (clues_of rows) root w n b g
left rows root table (opened slice p0 p1 e) = opening rows slice root p0 p1 e
left rows root table (called {b} {g} run slice c laid) =
    let l = left rows root table run in
    subst (λ m. take (record_size * m) slice ≡ book_words b →
    LeftBy (clues_of rows) root (answer rows slice m c) (book_after (clues_of rows) b (length slice) c) (given_out (answer rows slice m c) c g))
    (sym l.counted)
    (λ h. leaves (record { table = table; good = l.good; laid = h; few = l.few }) c) (laid ∙ l.words)
