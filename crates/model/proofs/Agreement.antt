-- Over every run the numbers given are the article's, but for the corner;
-- where nothing was deleted the labels given out are those of the lines.
use mathlib.Core.Path.{◌≡◌, refl, ap, subst, ◌∙◌, sym}
use mathlib.Core.List.{List}
use mathlib.Core.Option.{Option, none, some}
use Prim.Native.Nat.{ℕ, ◌<◌, ◌%◌, ◌+◌, ◌*◌}
use lib.ListN.{length, take}
use Rattle.basics.specs.Basics.{elim?, last}
use Rattle.basics.specs.Limits.{record_size}
use Rattle.basics.specs.Refusals.{Refusal}
use Rattle.naming.specs.Names.{Table, clues_of}
use Rattle.labelling.specs.Numbers.{number, article_number}
use Rattle.labelling.specs.Labels.{Label}
use Rattle.store_calls.specs.Updates.{given}
use Rattle.book.specs.Book.{line_element, opened, called, Book, NewElement, book_words, deletion, Call, answer, book_after, given_out, entry, last_below}
use Rattle.model.specs.Claims.{NothingDeleted, ArticleNumbers}
use Rattle.naming.proofs.NameTables.{placed_at}
use Rattle.labelling.proofs.Article.{article_first, article_agrees}
use Rattle.labelling.proofs.LabelWords.{label_of-label_words}
use Rattle.book.proofs.InOrder.{line_at_mem, labels, labels_moved}
use Rattle.book.proofs.Calls.{Ready}
use Rattle.book.proofs.Answers.{entry_answer, entry_book_lem, refused_holds}
use Rattle.book.proofs.Run.{left, given_refused}

-- the number given below a line is the article's after the number given out last below it
pub article_numbers : ArticleNumbers
unfolding given line_element elim?
article_numbers rows table root w n b g run l x found name k place off =
    let (m, h) = line_at_mem l b x found in
    let last_given_lem = (left rows root table run).good.last_given x m in
    let small = (placed_at name (clues_of rows (last x.names)) k place).0 in
    rw place (ap (number (length (clues_of rows (last x.names))) k) (subst (λ l. x.next ≡ elim? (last_below l g) 0 (λ y. y + 1)) h last_given_lem) ∙
    go (length (clues_of rows (last x.names))) small (last_below l g) off)
  where
    go : (size : ℕ) → k < size → (o : Option ℕ) → ((y : ℕ) → o ≡ some y → (k ≡ 0) × (y % size ≡ 0) → ⊥) →
        number size k (elim? o 0 (λ y. y + 1)) ≡ article_number size k o
    go size small none off = article_first size k small
    go size small (some y) off = article_agrees size k y small (off y refl)

-- after a call that deletes nothing the labels given out are those of the lines, where they were before
labels_after : {rows : Table} {root : ℕ} {b : Book} {g : List Label} {slice : List ℕ} → Ready rows root b g slice → labels b ≡ g →
    (c : Call) → ((lw : List ℕ) → c ≡ deletion lw → (answer rows slice (length b) c).refusal ≡ none → ⊥) →
    labels (book_after (clues_of rows) b (length slice) c) ≡ given_out (answer rows slice (length b) c) c g
labels_after {rows} {root} {b} {g} {slice} ready same c kept = go (answer rows slice (length b) c).refusal refl
  where
    entered : (new : NewElement) → (answer rows slice (length b) (entry new)).refusal ≡ none →
        labels (book_after (clues_of rows) b (length slice) (entry new)) ≡
        given_out (answer rows slice (length b) (entry new)) (entry new) g
    entered new e =
        unfold given_out elim? in
        rw (entry_answer ready new e, entry_book_lem ready new e, label_of-label_words, labels_moved, same)

    accepted : (c : Call) → ((lw : List ℕ) → c ≡ deletion lw → (answer rows slice (length b) c).refusal ≡ none → ⊥) →
        (answer rows slice (length b) c).refusal ≡ none →
        labels (book_after (clues_of rows) b (length slice) c) ≡ given_out (answer rows slice (length b) c) c g
    accepted (entry new) kept e = entered new e
    accepted (deletion lw) kept e = absurd (kept lw refl e)

    go : (o : Option Refusal) → (answer rows slice (length b) c).refusal ≡ o →
        labels (book_after (clues_of rows) b (length slice) c) ≡ given_out (answer rows slice (length b) c) c g
    go none e = accepted c kept e
    go (some r) e =
        rw ((refused_holds ready c r e).book_stays, given_refused (answer rows slice (length b) c) g r c e) same

-- where nothing was deleted the labels given out are those of the lines
pub nothing_deleted : NothingDeleted
nothing_deleted rows table root w n b g (opened slice p0 p1 e) u = refl
nothing_deleted rows table root w n b g (called {w = v} {n = m} {b = c} {g = h} run slice call laid) u =
    let l = left rows root table run in
    let same = nothing_deleted rows table root v m c h run u.0 in
    subst (λ m. take (record_size * m) slice ≡ book_words c → ((lw : List ℕ) → call ≡ deletion lw → (answer rows slice m call).refusal ≡ none → ⊥) →
    labels (book_after (clues_of rows) c (length slice) call) ≡ given_out (answer rows slice m call) call h) (sym l.counted)
    (λ laid kept. labels_after (record { table = table; good = l.good; laid = laid; few = l.few }) same call kept) (laid ∙ l.words) u.1
