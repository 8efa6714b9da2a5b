-- What holds of a book and the labels given out, at the opening and after every accepted call.
use mathlib.Core.Path.{◌≡◌, refl, sym, ap, ◌∙◌, subst}
use mathlib.Core.Logic.{◌⊎◌, inl, inr, ⊎_elim}
use mathlib.Core.Bool.{Bool, true, false, cond}
use mathlib.Core.List.Memᴰ
use mathlib.Core.List.{List, [], ◌∷◌, ◌++◌, append-nil, append_assoc}
use mathlib.Core.Option.{none, some}
use Prim.Native.Nat.{ℕ, suc, ◌+◌, ◌*◌, ◌≤◌, ◌<◌, zero-le}
use native.Mathlib.Nat.{suc-mul}
use native.Mathlib.Omega.{arith}
use lib.ListN.{length, length-append}
use lib.Dec.{T, leb, le→leb}
use Rattle.basics.specs.Basics.{◌∈◌, elim?, all, keep, last}
use Rattle.basics.specs.Limits.{max_name, max_component, max_depth}
use Rattle.naming.specs.Names.{Clues, place_in, led}
use Rattle.labelling.specs.Numbers.{Least}
use Rattle.labelling.specs.Labels.{Label, shared, within, same, decode, path, is_component}
use Rattle.patterns.specs.Twigs.{child_edge}
use Rattle.embeddings.specs.Matches.{holds}
use Rattle.book.specs.Book.{Line, Book, NewElement, root_line, child_line, entry_book, struck, moved, given_below, last_below}
use Rattle.basics.proofs.Tests.{Tells, passes, fails, and_iff, is_true, is_false}
use Rattle.basics.proofs.Lists.{here, there, here_or_there, nowhere, only_one, for_cons, for_map, all_snoc, last_snoc}
use Rattle.labelling.proofs.LabelOrder.{within_iff, within_chain, same?, snoc_parent, snoc_last}
use Rattle.embeddings.proofs.Asking.{child_iff}
use Rattle.labelling.proofs.Decode.{decode_child, path_names}
use Rattle.labelling.proofs.LabelWords.{GoodLabel}
use Rattle.book.proofs.InOrder.{Apart, labels, labels_moved, struck_iff, struck_apart}

-- a good line: its label is one and decodes to its path, and its next number is 0 where nothing may stand below
pub record GoodLine (cl : Clues) (root : ℕ) (x : Line) : Type 0 where
  pub labelled : GoodLabel x.label
  pub decodes : decode cl root x.label ≡ path x.names
  pub childless : length (cl (last x.names)) ≡ 0 → x.next ≡ 0
  pub deepest : length x.label ≡ max_depth → x.next ≡ 0

-- a good book b, beside the labels g given out
pub record Good (cl : Clues) (root : ℕ) (b : Book) (g : List Label) : Type 0 where
  pub root_is_name : root ≤ max_name
  pub lines : (x : Line) → x ∈ b → GoodLine cl root x
  pub apart : Apart (labels b)
  -- the parent's line of a line stands too
  pub parents : (x : Line) → x ∈ b → (p : Label) (c : ℕ) → x.label ≡ p ++ (c ∷ []) → (y : Line) × y ∈ b × (y.label ≡ p)
  -- every number given below a standing line is less than the line's next number
  pub below : (x : Line) → x ∈ b → (c : ℕ) → x.label ++ (c ∷ []) ∈ g → c < x.next
  -- the label of a standing line was given out, and so was the parent of every label given out
  pub given_lines : (x : Line) → x ∈ b → x.label ∈ g
  pub given_parents : (p : Label) (c : ℕ) → p ++ (c ∷ []) ∈ g → p ∈ g
  -- no label was given out twice
  pub once : Apart g
  -- a next number is at most as many rounds up as labels were given out below
  pub rounds : (x : Line) → x ∈ b → x.next ≤ given_below x.label g * length (cl (last x.names))
  -- a next number is one above the number given out last below, and 0 where none was
  pub last_given : (x : Line) → x ∈ b → x.next ≡ elim? (last_below x.label g) 0 (λ y. y + 1)

-- the label of a child is not the root's
pub snoc_root : (p : Label) (c : ℕ) → p ++ (c ∷ []) ≡ [] → ⊥
snoc_root p c e = omega (arith, length-append p (c ∷ []), ap length e)

-- the opened book is good
pub good_opening : (cl : Clues) (root p0 p1 : ℕ) → root ≤ max_name → Good cl root (root_line root p0 p1 ∷ []) ([] ∷ [])
unfolding decode all elim? last_below holds within shared
good_opening cl root p0 p1 h = record {
  root_is_name = h;
  lines = for_cons (GoodLine cl root) (record { labelled = record { shallow = omega arith; small = tt }; decodes = refl; childless = λ e. refl; deepest = λ e. refl })
      (λ y m. absurd (nowhere m));
  apart = (λ m k e. nowhere k, tt);
  parents = λ x m p c e. absurd (snoc_root p c (sym e ∙ ap (λ (x : Line). x.label) (only_one m)));
  below = λ x m c k. absurd (snoc_root x.label c (only_one k));
  given_lines = λ x m. here (ap (λ (x : Line). x.label) (only_one m));
  given_parents = λ p c k. absurd (snoc_root p c (only_one k));
  once = (λ m k e. nowhere k, tt);
  rounds = for_cons (λ x. x.next ≤ given_below x.label ([] ∷ []) * length (cl (last x.names))) zero-le (λ y m. absurd (nowhere m));
  last_given = for_cons (λ x. x.next ≡ elim? (last_below x.label ([] ∷ [])) 0 (λ y. y + 1)) refl (λ y m. absurd (nowhere m));
}

module _ {cl : Clues} {root : ℕ} {b : Book} {g : List Label} (good : Good cl root b g) where
  -- every label that a given label goes on from was given out
  pub prefix_given : (t p : Label) → p ++ t ∈ g → p ∈ g
  prefix_given [] p m = Memᴰ.cast (sym (append-nil p)) m
  prefix_given (c ∷ t) p m = good.given_parents p c (prefix_given t (p ++ (c ∷ [])) (Memᴰ.cast (append_assoc p (c ∷ []) t) m))

-- a deletion keeps the book good
pub good_deletion : {cl : Clues} {root : ℕ} {b : Book} {g : List Label} (l : Label) → Good cl root b g → Good cl root (struck l b) g
good_deletion {b = b} l good = record {
  root_is_name = good.root_is_name;
  lines = λ x m. good.lines x ((struck_iff l b x).0 m).0;
  apart = struck_apart l b good.apart;
  parents = λ x m p c e.
      let (k, n) = (struck_iff l b x).0 m in
      let (y, h, f) = good.parents x k p c e in (
        y,
        (struck_iff l b y).1 (
          h,
          λ w. n (within_chain l y.label x.label w
              ((within_iff y.label x.label).1 (c ∷ [], e ∙ ap (λ q. q ++ (c ∷ [])) (sym f)))),
        ),
        f,
      );
  below = λ x m. good.below x ((struck_iff l b x).0 m).0;
  given_lines = λ x m. good.given_lines x ((struck_iff l b x).0 m).0;
  given_parents = good.given_parents;
  once = good.once;
  rounds = λ x m. good.rounds x ((struck_iff l b x).0 m).0;
  last_given = λ x m. good.last_given x ((struck_iff l b x).0 m).0;
}

-- where no label was given out below another, no number was given out last below it
none_below : (l : Label) (g : List Label) → ((c : ℕ) → l ++ (c ∷ []) ∈ g → ⊥) → last_below l g ≡ none
unfolding last_below
none_below l [] h = refl
none_below l (m ∷ g) h = rw (is_false (holds child_edge l m) not_right_above) (none_below l g (λ c k. h c (there k)))
  where
    not_right_above : T (holds child_edge l m) → ⊥
    not_right_above t = let (c, e) = (child_iff l m).0 t in h c (here (sym e))

-- the number num suits the entry of a new element below the line x
pub record Suits (cl : Clues) (x : Line) (new : NewElement) (num : ℕ) : Type 0 where
  pub place : ℕ
  pub placed : place_in new.name (cl (last x.names)) ≡ some place
  pub least : Least (length (cl (last x.names))) place x.next num
  pub room : num ≤ max_component
  pub leads : led (cl (last x.names)) num ≡ some new.name
  pub clue : 0 < length (cl (last x.names))
  pub deep : length x.label < max_depth
  pub round : (m : ℕ) → x.next ≤ m * length (cl (last x.names)) → num < suc m * length (cl (last x.names))

-- an entry below the line x, given the number num, keeps the book good
module _ {cl : Clues} {root : ℕ} {b : Book} {g : List Label} (good : Good cl root b g) {x : Line} (stands : x ∈ b) {new : NewElement} {num : ℕ}
    (suits : Suits cl x new num) where
  -- the label of the new line was not given out before
  pub fresh : x.label ++ (num ∷ []) ∈ g → ⊥
  fresh m = omega (arith, good.below x stands num m, suits.least.high)

  -- the new line is good
  new_line : GoodLine cl root (child_line x num new)
  unfolding is_component
  new_line = record {
    labelled =
        let up = (good.lines x stands).labelled in
        record {
          shallow = omega (arith, length-append x.label (num ∷ []));
          small = rw all_snoc ((and_iff (all is_component x.label) (leb num max_component)).1 (up.small, le→leb num max_component suits.room));
        };
    decodes = decode_child cl root x.label x.names num new.name (good.lines x stands).decodes suits.leads;
    childless = λ e. refl;
    deepest = λ e. refl;
  }

  -- a line with the same label has the same clue
  same_clue : (y : Line) → y ∈ b → y.label ≡ x.label → length (cl (last y.names)) ≡ length (cl (last x.names))
  same_clue y m e = ap (λ n. length (cl (last n))) (path_names (sym (good.lines y m).decodes ∙ ap (decode cl root) e ∙ (good.lines x stands).decodes))

  -- a moved line is good
  moved_line : (y : Line) → y ∈ b → GoodLine cl root (moved x.label (num + 1) y)
  unfolding moved
  moved_line y m = go (same y.label x.label) (same? y.label x.label)
    where
      h : GoodLine cl root y
      h = good.lines y m

      go : (c : Bool) → Tells (y.label ≡ x.label) c →
          GoodLine cl root (record { label = y.label; names = y.names; next = cond c (num + 1) y.next; payload0 = y.payload0; payload1 = y.payload1 })
      go true (passes e) =
          record {
            labelled = h.labelled;
            decodes = h.decodes;
            childless = λ z. omega (arith, same_clue y m e);
            deepest = λ z. omega (arith, ap length e);
          }
      go false n = record { labelled = h.labelled; decodes = h.decodes; childless = h.childless; deepest = h.deepest }

  -- every number given below a moved line is below its next number
  moved_below : (y : Line) → y ∈ b → (c : ℕ) → y.label ++ (c ∷ []) ∈ (x.label ++ (num ∷ [])) ∷ g →
      c < (moved x.label (num + 1) y).next
  unfolding moved
  moved_below y m c k = go (same y.label x.label) (same? y.label x.label) (here_or_there k)
    where
      go : (d : Bool) → Tells (y.label ≡ x.label) d → (y.label ++ (c ∷ []) ≡ x.label ++ (num ∷ [])) ⊎ y.label ++ (c ∷ []) ∈ g →
          c < cond d (num + 1) y.next
      go true (passes e) (inl f) = omega (arith, snoc_last y.label x.label c num f)
      go true (passes e) (inr k) = omega (arith, good.below x stands c (Memᴰ.cast (ap (λ l. l ++ (c ∷ [])) (sym e)) k))
      go false (fails n) (inl f) = absurd (n (snoc_parent y.label x.label c num f))
      go false (fails n) (inr k) = good.below y m c k

  -- a moved line's next number is at most as many rounds up as labels were given below
  moved_rounds : (y : Line) → y ∈ b →
      (moved x.label (num + 1) y).next ≤ given_below y.label ((x.label ++ (num ∷ [])) ∷ g) * length (cl (last y.names))
  unfolding moved given_below keep
  moved_rounds y m = go (same y.label x.label) (same? y.label x.label)
    where
      more : (c : Bool) → y.next ≤ length (cond c ((x.label ++ (num ∷ [])) ∷ keep (holds child_edge y.label) g) (keep (holds child_edge y.label) g)) *
          length (cl (last y.names))
      more true = omega (arith, good.rounds y m, suc-mul (given_below y.label g) (length (cl (last y.names))))
      more false = good.rounds y m

      own : num + 1 ≤ given_below x.label ((x.label ++ (num ∷ [])) ∷ g) * length (cl (last x.names))
      own =
          rw (is_true (holds child_edge x.label (x.label ++ (num ∷ []))) ((child_iff x.label _).1 (num, refl)))
          (omega (arith, suits.round (given_below x.label g) (good.rounds x stands)))

      go : (d : Bool) → Tells (y.label ≡ x.label) d → cond d (num + 1) y.next ≤ given_below y.label ((x.label ++ (num ∷ [])) ∷ g) *
          length (cl (last y.names))
      go true (passes e) =
          rw (same_clue y m e) (subst (λ l. num + 1 ≤ given_below l ((x.label ++ (num ∷ [])) ∷ g) * length (cl (last x.names))) (sym e) own)
      go false (fails n) = more (holds child_edge y.label (x.label ++ (num ∷ [])))

  -- a moved line's next number is one above the number given last below
  moved_last : (y : Line) → y ∈ b →
      (moved x.label (num + 1) y).next ≡ elim? (last_below y.label ((x.label ++ (num ∷ [])) ∷ g)) 0 (λ k. k + 1)
  unfolding moved last_below elim?
  moved_last y m = go (same y.label x.label) (same? y.label x.label)
    where
      go : (d : Bool) → Tells (y.label ≡ x.label) d → cond d (num + 1) y.next ≡
          elim? (cond (holds child_edge y.label (x.label ++ (num ∷ []))) (some (last (x.label ++ (num ∷ [])))) (last_below y.label g)) 0 (λ k. k + 1)
      go true (passes e) = rw (e, is_true (holds child_edge x.label (x.label ++ (num ∷ []))) ((child_iff x.label _).1 (num, refl)), last_snoc x.label num)
      go false (fails n) =
          let apart : T (holds child_edge y.label (x.label ++ (num ∷ []))) → ⊥ =
          λ h. let (c, e) = (child_iff y.label _).0 h in n (sym (snoc_parent x.label y.label num c e)) in
          rw (is_false (holds child_edge y.label (x.label ++ (num ∷ []))) apart) (good.last_given y m)

  -- what holds of the new line and of the moved ones holds of all
  each : (P : Line → Type 0) → P (child_line x num new) → ((y : Line) → y ∈ b → P (moved x.label (num + 1) y)) →
      (z : Line) → z ∈ entry_book b x num new → P z
  each P p q = for_cons P p (for_map (moved x.label (num + 1)) P b q)

  -- the moved lines stand in the book after the entry
  moved_mem : {y : Line} → y ∈ b → moved x.label (num + 1) y ∈ entry_book b x num new
  moved_mem m = there (Memᴰ.map (moved x.label (num + 1)) m)

  -- the parent's line of a line stands after the entry too
  parent_after : (z : Line) → z ∈ entry_book b x num new → (p : Label) (c : ℕ) → z.label ≡ p ++ (c ∷ []) →
      (y : Line) × y ∈ entry_book b x num new × (y.label ≡ p)
  unfolding moved
  parent_after =
      each (λ z. (p : Label) (c : ℕ) → z.label ≡ p ++ (c ∷ []) → (y : Line) × y ∈ entry_book b x num new × (y.label ≡ p))
      (λ p c e. (moved x.label (num + 1) x, moved_mem stands, snoc_parent x.label p num c e))
      (λ y m p c e. let (z, k, f) = good.parents y m p c e in (moved x.label (num + 1) z, moved_mem k, f))

  -- no label was given out below the new one
  not_below_new : (c : ℕ) → x.label ++ (num ∷ []) ++ (c ∷ []) ∈ (x.label ++ (num ∷ [])) ∷ g → ⊥
  not_below_new c k =
      ⊎_elim (λ e. omega (arith, ap length e, length-append (x.label ++ (num ∷ [])) (c ∷ [])))
      (λ k. fresh (good.given_parents (x.label ++ (num ∷ [])) c k)) (here_or_there k)

  -- no number was given out last below the new label
  nothing_last : 0 ≡ elim? (last_below (x.label ++ (num ∷ [])) ((x.label ++ (num ∷ [])) ∷ g)) 0 (λ y. y + 1)
  unfolding elim?
  nothing_last = rw (none_below (x.label ++ (num ∷ [])) ((x.label ++ (num ∷ [])) ∷ g) not_below_new)

  -- no two lines have the same label after the entry
  apart_after : Apart (labels (entry_book b x num new))
  apart_after = rw labels_moved
      (for_map (λ (y : Line). y.label) (λ m. x.label ++ (num ∷ []) ≡ m → ⊥) b (λ y h e. fresh (Memᴰ.cast e (good.given_lines y h))), good.apart)

  -- the book after the entry is good
  pub good_entry : Good cl root (entry_book b x num new) ((x.label ++ (num ∷ [])) ∷ g)
  unfolding moved
  good_entry = record {
    root_is_name = good.root_is_name;
    lines = each (GoodLine cl root) new_line moved_line;
    apart = apart_after;
    parents = parent_after;
    below = each (λ z. (c : ℕ) → z.label ++ (c ∷ []) ∈ (x.label ++ (num ∷ [])) ∷ g → c < z.next) (λ c k. absurd (not_below_new c k)) moved_below;
    given_lines = each (λ z. z.label ∈ (x.label ++ (num ∷ [])) ∷ g) (here refl) (λ y m. there (good.given_lines y m));
    given_parents = λ p c m. there (
        ⊎_elim (λ e. Memᴰ.cast (snoc_parent p x.label c num e) (good.given_lines x stands)) (good.given_parents p c) (here_or_there m));
    once = (λ m k e. fresh (Memᴰ.cast e k), good.once);
    rounds = each (λ z. z.next ≤ given_below z.label ((x.label ++ (num ∷ [])) ∷ g) * length (cl (last z.names))) zero-le moved_rounds;
    last_given = each (λ z. z.next ≡ elim? (last_below z.label ((x.label ++ (num ∷ [])) ∷ g)) 0 (λ y. y + 1)) nothing_last moved_last;
  }
