-- What demand 3 says of an accepted entry and of an accepted deletion.
use mathlib.Core.Path.{◌≡◌, refl, sym, ap, subst, ◌∙◌}
use mathlib.Core.Bool.{cond}
use mathlib.Core.List.Memᴰ
use mathlib.Core.List.{List, ◌++◌, ◌∷◌, []}
use mathlib.Core.Option.{none}
use Prim.Native.Nat.{ℕ, ◌+◌}
use lib.ListN.{length}
use Rattle.naming.specs.Names.{Table, clues_of}
use Rattle.labelling.specs.Labels.{Label, same, label_of, decode_call}
use Rattle.patterns.specs.Twigs.{read_twig}
use Rattle.store_calls.specs.Updates.{Answer}
use Rattle.cut_calls.specs.Cutting.{full_list}
use Rattle.book.specs.Book.{moved, Book, NewElement, Line, Call, answer, deletion, entry, book_after, child_line}
use Rattle.model.specs.Demand3.{Next, Accepted, DeletionHolds, EntryHolds}
use Rattle.basics.proofs.Tests.{is_false, is_true}
use Rattle.basics.proofs.Lists.{here, there}
use Rattle.labelling.proofs.LabelOrder.{same_alike}
use Rattle.labelling.proofs.LabelCalls.{decode_call_lem}
use Rattle.patterns.proofs.TwigBytes.{accepted_twig}
use Rattle.book.proofs.InOrder.{line_at_mem, struck_iff}
use Rattle.book.proofs.Calls.{Ready}
use Rattle.book.proofs.Answers.{parent, deletion_found, refused_alike_lem, deletion_book, refused_holds, num, deletion_answer, entry_answer, entry_book_lem, entry_length, entry_good}
use Rattle.model.proofs.Streams.{deletion_matches, entry_matches}
use Rattle.model.proofs.RefusedBy.{run_by}

-- a line with another label is left as it was
unmoved : (l : Label) (f : ℕ) (x : Line) → (x.label ≡ l → ⊥) → x ≡ moved l f x
unfolding moved
unmoved l f x n = λ i. record {
  label = x.label;
  names = x.names;
  next = ap (λ c. cond c f x.next) (sym (is_false (same x.label l) (λ t. n ((same_alike x.label l).0 t)))) i;
  payload0 = x.payload0;
  payload1 = x.payload1;
}

-- of the line with the label that is moved only the next number changes
moved_next : (f : ℕ) (x : Line) → record { label = x.label; names = x.names; next = f; payload0 = x.payload0; payload1 = x.payload1 } ≡ moved x.label f x
unfolding moved
moved_next f x = λ i. record {
  label = x.label;
  names = x.names;
  next = ap (λ c. cond c f x.next) (sym (is_true (same x.label x.label) ((same_alike x.label x.label).1 refl))) i;
  payload0 = x.payload0;
  payload1 = x.payload1;
}

module _ {rows : Table} {root : ℕ} {b : Book} {g : List Label} {slice : List ℕ} (ready : Ready rows root b g slice) where
  -- an accepted entry does what demand 3 says of it
  pub entry_holds : (new : NewElement) → (answer rows slice (length b) (entry new)).refusal ≡ none →
      EntryHolds rows root (length b) b (book_after (clues_of rows) b (length slice) (entry new)) slice new
  unfolding full_list
  entry_holds new e =
      let p = parent ready new e in
      let x = p.line in
      let (stands, label) = line_at_mem (label_of new.parent) b x p.found in
      let f = num ready new e in
      let a = entry_answer ready new e in
      let good = entry_good ready new e in
      let line = good.lines (child_line x f new) (here refl) in
      subst (λ after. EntryHolds rows root (length b) b after slice new) (sym (entry_book_lem ready new e)) (record {
        parent = x;
        found = p.found;
        parent_label = label;
        place = p.suits.place;
        placed = p.suits.placed;
        num = f;
        numbered = refl;
        least = p.suits.least;
        added = here refl;
        answered = ap (λ (a : Answer). a.label) a;
        new_path = line.decodes;
        decoded =
            ap (λ (a : Answer). decode_call rows root a.label) a ∙
            decode_call_lem rows root (x.label ++ (f ∷ [])) ready.table good.root_is_name line.labelled
            (x.names ++ (new.name ∷ [])) line.decodes;
        parent_moved = there (Memᴰ.cast (moved_next (f + 1) x) (Memᴰ.map (moved x.label (f + 1)) stands));
        others_stay = λ y m n. there (Memᴰ.cast (unmoved x.label (f + 1) y (λ d. n (d ∙ label))) (Memᴰ.map (moved x.label (f + 1)) m));
        one_more = entry_length ready new e;
        counted = ap (λ (a : Answer). a.count) a ∙ sym (entry_length ready new e);
        words = ap (λ (a : Answer). a.slice) a;
        matched = λ bytes ok. entry_matches ready.good stands p.suits (read_twig bytes) (accepted_twig bytes ok);
      })

  -- an accepted deletion does what demand 3 says of it
  pub deletion_holds : (lw : List ℕ) → (answer rows slice (length b) (deletion lw)).refusal ≡ none →
      DeletionHolds rows root (length b) b (book_after (clues_of rows) b (length slice) (deletion lw)) slice lw
  unfolding full_list
  deletion_holds lw e =
      let (x, f) = deletion_found ready lw e in
      subst (λ after. DeletionHolds rows root (length b) b after slice lw) (sym (deletion_book ready lw e)) (record {
        struck_line = x;
        found = f;
        stays = struck_iff (label_of lw) b;
        counted = ap (λ (a : Answer). a.count) (deletion_answer ready lw e);
        words = ap (λ (a : Answer). a.slice) (deletion_answer ready lw e);
        matched = λ bytes ok. deletion_matches ready.good (label_of lw) (read_twig bytes) (accepted_twig bytes ok);
      })

  -- the call that comes next does what demand 3 says of it
  pub next : (c : Call) → Next rows root (length b) b slice c
  next c = record {
    refused_alike = refused_alike_lem ready c;
    refused_by = λ r e. run_by (clues_of rows) b (length slice) c r (sym (refused_alike_lem ready c) ∙ e);
    refused = refused_holds ready c;
    accepted = accepted c;
  }
    where
      accepted : (c : Call) → (answer rows slice (length b) c).refusal ≡ none → Accepted rows root (length b) b (book_after (clues_of rows) b (length slice) c) slice c
      accepted (entry new) e = entry_holds new e
      accepted (deletion lw) e = deletion_holds lw e
