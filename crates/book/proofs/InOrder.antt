-- The book's lines: in label order, found by a label, moved, struck.
use mathlib.Core.Path.{◌≡◌, refl, sym, ap, ◌∙◌}
use mathlib.Core.Logic.{◌↔◌, ◌⊎◌, inl, inr, ⊎_elim}
use mathlib.Core.Bool.{Bool, true, false, cond, not}
use mathlib.Core.List.Memᴰ
use mathlib.Core.List.{List, [], ◌∷◌, map}
use mathlib.Core.Option.{Option, some, none-ne-some}
use Prim.Native.Nat.{ℕ, suc}
use lib.ListN.{length}
use lib.Dec.{T, T_not, not_T}
use Rattle.basics.specs.Basics.{◌∈◌, keep, Ascending, none_left, one_more_lem}
use Rattle.labelling.specs.Labels.{Label, within, same}
use Rattle.book.specs.Book.{Line, Book, sooner, line_at, insert_line, in_order, struck, moved}
use Rattle.basics.proofs.Tests.{Tells, passes, fails}
use Rattle.basics.proofs.Orders.{OneWay}
use Rattle.basics.proofs.Lists.{here, there, here_or_there, nowhere, for_cons, for_map, map_iff, keep_iff, keep_ascending, map_ascending, ascending_unique}
use Rattle.labelling.proofs.LabelOrder.{before_order, before_one_way, same?}

-- no label of a list stands twice
abbrev pub Apart : List Label → Type 0
Apart [] = Unit {0}
Apart (l ∷ ls) = ((m : Label) → m ∈ ls → l ≡ m → ⊥) × Apart ls

-- the labels of a book
abbrev pub labels : Book → List Label
labels b = map (λ x. x.label) b

-- the label of a line of a book is a label of the book
label_mem : {x : Line} {b : Book} → x ∈ b → x.label ∈ labels b
label_mem m = Memᴰ.map (λ x. x.label) m

-- no two lines come before each other in label order
sooner_one_way : OneWay sooner
sooner_one_way = record { asym = λ x y. before_one_way.asym x.label y.label }

-- inserting a line adds that line and nothing else
insert_iff : (x : Line) (s : Book) (y : Line) → y ∈ insert_line x s ↔ y ∈ x ∷ s
unfolding insert_line
insert_iff x [] y = (λ m. m, λ m. m)
insert_iff x (z ∷ s) y = go (sooner x z) (insert_iff x s y)
  where
    go : (b : Bool) → y ∈ insert_line x s ↔ y ∈ x ∷ s → y ∈ cond b (x ∷ z ∷ s) (z ∷ insert_line x s) ↔ y ∈ x ∷ z ∷ s
    go true below = (λ m. m, λ m. m)
    go false below = (
      λ m. ⊎_elim (λ e. there (here e)) (λ k. ⊎_elim here (λ k. there (there k)) (here_or_there (below.0 k))) (here_or_there m),
      λ m. ⊎_elim (λ e. there (below.1 (here e))) (λ k. ⊎_elim here (λ k. there (below.1 (there k))) (here_or_there k)) (here_or_there m),
    )

-- the lines in label order are the lines of the book
pub in_order_iff : (b : Book) (y : Line) → y ∈ in_order b ↔ y ∈ b
unfolding in_order
in_order_iff [] y = (λ m. m, λ m. m)
in_order_iff (x ∷ b) y =
    let below = in_order_iff b y in
    let all = insert_iff x (in_order b) y in (
      λ m. ⊎_elim here (λ k. there (below.0 k)) (here_or_there (all.0 m)),
      λ m. all.1 (⊎_elim here (λ k. there (below.1 k)) (here_or_there m)),
    )

-- inserting a line makes a book one line longer
length_insert : (x : Line) (s : Book) → length (insert_line x s) ≡ suc (length s)
unfolding insert_line
length_insert x [] = refl
length_insert x (z ∷ s) = go (sooner x z) (length_insert x s)
  where
    go : (b : Bool) → length (insert_line x s) ≡ suc (length s) → length (cond b (x ∷ z ∷ s) (z ∷ insert_line x s)) ≡ suc (suc (length s))
    go true e = refl
    go false e = ap suc e

-- a book in label order has as many lines as the book
pub length-in_order : (b : Book) → length (in_order b) ≡ length b
unfolding in_order
length-in_order [] = refl
length-in_order (x ∷ b) = length_insert x (in_order b) ∙ ap suc (length-in_order b)

-- inserting a line whose label is new keeps the label order
insert_ascending : (x : Line) {s : Book} → ((y : Line) → y ∈ s → x.label ≡ y.label → ⊥) → Ascending sooner s → Ascending sooner (insert_line x s)
unfolding insert_line
insert_ascending x new none_left = one_more_lem (λ y m. absurd (nowhere m)) none_left
insert_ascending x new (one_more_lem {a = z} {more = s} h a) = go (insert_ascending x (λ y m. new y (there m)) a) (sooner x z) (λ p. p) later
  where
    later : (T (sooner x z) → ⊥) → T (sooner z x)
    later n = ⊎_elim (λ p. absurd (n p)) (⊎_elim (λ e. absurd (new z (here refl) e)) (λ p. p)) (before_order.total x.label z.label)

    go : Ascending sooner (insert_line x s) → (b : Bool) → (T b → T (sooner x z)) → ((T b → ⊥) → T (sooner z x)) →
        Ascending sooner (cond b (x ∷ z ∷ s) (z ∷ insert_line x s))
    go below true p q = one_more_lem (for_cons (λ y. T (sooner x y)) (p tt) (λ y m. before_order.chain x.label z.label y.label (p tt) (h y m)))
        (one_more_lem h a)
    go below false p q = one_more_lem (λ y m. for_cons (λ y. T (sooner z y)) (q (λ t. t)) h y ((insert_iff x s y).0 m)) below

-- where no label stands twice, the lines in label order are ascending
pub in_order_ascending : (b : Book) → Apart (labels b) → Ascending sooner (in_order b)
unfolding in_order
in_order_ascending [] a = none_left
in_order_ascending (x ∷ b) a = insert_ascending x (λ y m. a.0 y.label (label_mem ((in_order_iff b y).0 m))) (in_order_ascending b a.1)

-- an ascending list of the book's lines is the book in label order
in_order_lem : (b : Book) → Apart (labels b) → {s : Book} → Ascending sooner s → ((y : Line) → y ∈ s ↔ y ∈ b) → s ≡ in_order b
in_order_lem b a up e = ascending_unique sooner_one_way up (in_order_ascending b a) (λ y. (λ m. (in_order_iff b y).1 ((e y).0 m), λ m. (e y).1 ((in_order_iff b y).0 m)))

-- a label's line is found alike in a book with a line inserted and in one with that line in front
line_at_insert : (l : Label) (x : Line) (s : Book) → ((y : Line) → y ∈ s → x.label ≡ y.label → ⊥) → line_at l (insert_line x s) ≡ line_at l (x ∷ s)
unfolding insert_line line_at
line_at_insert l x [] new = refl
line_at_insert l x (z ∷ s) new = go (sooner x z) (line_at_insert l x s (λ y m. new y (there m)))
  where
    swap : (o : Option Line) (p q : Bool) → Tells (x.label ≡ l) p → Tells (z.label ≡ l) q →
        cond q (some z) (cond p (some x) o) ≡ cond p (some x) (cond q (some z) o)
    swap o true true (passes h) (passes k) = absurd (new z (here refl) (h ∙ sym k))
    swap o true false h k = refl
    swap o false true h k = refl
    swap o false false h k = refl

    go : (b : Bool) → line_at l (insert_line x s) ≡ line_at l (x ∷ s) → line_at l (cond b (x ∷ z ∷ s) (z ∷ insert_line x s)) ≡ line_at l (x ∷ z ∷ s)
    go true ih = refl
    go false ih = ap (cond (same z.label l) (some z)) ih ∙ swap (line_at l s) _ _ (same? x.label l) (same? z.label l)

-- a label's line is found alike in a book and in the book in label order
pub line_at-in_order : (l : Label) (b : Book) → Apart (labels b) → line_at l (in_order b) ≡ line_at l b
unfolding in_order line_at
line_at-in_order l [] a = refl
line_at-in_order l (x ∷ b) a =
    line_at_insert l x (in_order b) (λ y m. a.0 y.label (label_mem ((in_order_iff b y).0 m))) ∙
    ap (cond (same x.label l) (some x)) (line_at-in_order l b a.1)

-- the line found for a label is a line of the book and has that label
pub line_at_mem : (l : Label) (b : Book) (x : Line) → line_at l b ≡ some x → x ∈ b × (x.label ≡ l)
unfolding line_at
line_at_mem l [] x e = absurd (none-ne-some x e)
line_at_mem l (z ∷ b) x e = go (same z.label l) (same? z.label l) e (line_at_mem l b x)
  where
    go : (c : Bool) → Tells (z.label ≡ l) c → cond c (some z) (line_at l b) ≡ some x → (line_at l b ≡ some x → x ∈ b × (x.label ≡ l)) →
        x ∈ z ∷ b × (x.label ≡ l)
    go true (passes h) e ih = let f : x ≡ z = cc in (here f, ap (λ (x : Line). x.label) f ∙ h)
    go false h e ih = (there (ih e).0, (ih e).1)

-- a label that some line has is found
pub line_at_found : (b : Book) (y : Line) → y ∈ b → (x : Line) × (line_at y.label b ≡ some x)
unfolding line_at
line_at_found [] y m = absurd (nowhere m)
line_at_found (z ∷ b) y m = go (same z.label y.label) (same? z.label y.label) (here_or_there m) (line_at_found b y)
  where
    go : (c : Bool) → Tells (z.label ≡ y.label) c → (y ≡ z) ⊎ y ∈ b → (y ∈ b → (x : Line) × (line_at y.label b ≡ some x)) →
        (x : Line) × (cond c (some z) (line_at y.label b) ≡ some x)
    go true h m ih = (z, refl)
    go false (fails n) (inl e) ih = absurd (n (ap (λ (x : Line). x.label) (sym e)))
    go false h (inr m) ih = ih m

-- moving a next number leaves the labels of a book as they were
pub labels_moved : (l : Label) (f : ℕ) (b : Book) → labels (map (moved l f) b) ≡ labels b
unfolding moved
labels_moved l f [] = refl
labels_moved l f (x ∷ b) = ap (◌∷◌ x.label) (labels_moved l f b)

-- moving a next number and putting in order give the same in either order
pub in_order_moved : (l : Label) (f : ℕ) (b : Book) → Apart (labels b) → in_order (map (moved l f) b) ≡ map (moved l f) (in_order b)
unfolding moved
in_order_moved l f b a =
    sym (in_order_lem (map (moved l f) b) (rw labels_moved a) (map_ascending (moved l f) (λ x y h. h) (in_order_ascending b a))
    (map_iff (moved l f) (in_order_iff b)))

-- a deletion leaves the lines whose labels do not begin with the one handed in
pub struck_iff : (l : Label) (b : Book) (y : Line) → y ∈ struck l b ↔ (y ∈ b × (T (within l y.label) → ⊥))
unfolding struck
struck_iff l b y =
    let kept = keep_iff (λ x. not (within l x.label)) b y in
    (λ m. ((kept.0 m).0, T_not (within l y.label) (kept.0 m).1), λ m. kept.1 (m.0, not_T (within l y.label) m.1))

-- labels of which none stands twice do so after a deletion
pub struck_apart : (l : Label) (b : Book) → Apart (labels b) → Apart (labels (struck l b))
unfolding struck keep
struck_apart l [] a = tt
struck_apart l (x ∷ b) a = go (not (within l x.label)) (struck_apart l b a.1)
  where
    go : (c : Bool) → Apart (labels (struck l b)) → Apart (labels (cond c (x ∷ struck l b) (struck l b)))
    go true below = (
      for_map (λ (y : Line). y.label) (λ m. x.label ≡ m → ⊥) (struck l b)
          (λ y h. a.0 y.label (label_mem ((struck_iff l b y).0 h).0)),
      below,
    )
    go false below = below

-- striking lines and putting in order give the same in either order
pub struck_in_order : (l : Label) (b : Book) → Apart (labels b) → struck l (in_order b) ≡ in_order (struck l b)
unfolding struck
struck_in_order l b a = in_order_lem (struck l b) (struck_apart l b a) (keep_ascending _ (in_order_ascending b a)) (λ y. (
  λ m. let (k, n) = (struck_iff l (in_order b) y).0 m in (struck_iff l b y).1 ((in_order_iff b y).0 k, n),
  λ m. let (k, n) = (struck_iff l b y).0 m in (struck_iff l (in_order b) y).1 ((in_order_iff b y).1 k, n),
))
