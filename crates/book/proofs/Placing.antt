-- Placing a new record after its parent's subtree is inserting its line in label order;
-- deleting records is striking lines.
use mathlib.Core.Path.{◌≡◌, refl, sym, ap, ◌∙◌}
use mathlib.Core.Bool.{Bool, true, false, cond, ◌||◌, not}
use mathlib.Core.List.Memᴰ
use mathlib.Core.List.{List, [], ◌∷◌, ◌++◌, map, append_assoc}
use Prim.Native.Nat.{ℕ, ◌+◌, ◌≤◌, ◌<◌}
use native.Mathlib.Omega.{arith}
use Rattle.basics.specs.Basics.{◌∈◌, keep}
use Rattle.naming.specs.Names.{Clues}
use Rattle.labelling.specs.Labels.{Label, before, within}
use Rattle.store_calls.specs.Updates.{placed, raised, without}
use Rattle.book.specs.Book.{Line, Book, NewElement, line_element, moved, struck, insert_line, in_order, entry_book, sooner, child_line}
use Rattle.basics.proofs.Lists.{here, there, for_map, last_snoc}
use Rattle.store_calls.proofs.Changes.{place_test}
use Rattle.book.proofs.InOrder.{in_order_iff, in_order_moved}
use Rattle.book.proofs.Good.{Good, prefix_given}

-- where their tests agree, placing an element is inserting its line
placed_insert : (l : Label) (new : Line) (s : Book) → ((y : Line) → y ∈ s → (within l y.label || before y.label l) ≡ not (sooner new y)) →
    placed l (line_element new) (map line_element s) ≡ map line_element (insert_line new s)
unfolding placed insert_line line_element
placed_insert l new [] h = refl
placed_insert l new (z ∷ s) h = rw (h z (here refl)) (go (sooner new z) (placed_insert l new s (λ y m. h y (there m))))
  where
    go : (b : Bool) → placed l (line_element new) (map line_element s) ≡ map line_element (insert_line new s) →
        cond (not b) (line_element z ∷ placed l (line_element new) (map line_element s)) (line_element new ∷ line_element z ∷ map line_element s) ≡
        map line_element (cond b (new ∷ z ∷ s) (z ∷ insert_line new s))
    go true e = refl
    go false e = ap (◌∷◌ (line_element z)) e

-- raising elements is moving their lines
raised_lines : (l : Label) (f : ℕ) (s : Book) → map (raised l f) (map line_element s) ≡ map line_element (map (moved l f) s)
unfolding raised moved line_element
raised_lines l f [] = refl
raised_lines l f (x ∷ s) = ap (◌∷◌ (raised l f (line_element x))) (raised_lines l f s)

-- striking lines is deleting their elements
pub without_lines : (l : Label) (s : Book) → without l (map line_element s) ≡ map line_element (struck l s)
unfolding without struck keep line_element
without_lines l [] = refl
without_lines l (x ∷ s) = go (not (within l x.label)) (without_lines l s)
  where
    go : (c : Bool) → without l (map line_element s) ≡ map line_element (struck l s) →
        cond c (line_element x ∷ without l (map line_element s)) (without l (map line_element s)) ≡ map line_element (cond c (x ∷ struck l s) (struck l s))
    go true e = ap (◌∷◌ (line_element x)) e
    go false e = e

module _ {cl : Clues} {root : ℕ} {b : Book} {g : List Label} (good : Good cl root b g) where
  -- a component right below a line's label is less than the line's next number
  low : (x : Line) → x ∈ b → (y : Line) → y ∈ b → (c : ℕ) (t : Label) → y.label ≡ x.label ++ (c ∷ t) → c < x.next
  low x m y k c t e = good.below x m c (prefix_given good t (x.label ++ (c ∷ []))
      (Memᴰ.cast (append_assoc x.label (c ∷ []) t ∙ sym e) (good.given_lines y k)))

  -- the elements after an entry are those of the book after it
  pub placed_lines : (x : Line) → x ∈ b → (num : ℕ) (new : NewElement) → x.next ≤ num →
      placed x.label
      (record { label = x.label ++ (num ∷ []); name = new.name; next = 0; payload0 = new.payload0; payload1 = new.payload1 })
      (map (raised x.label (num + 1)) (map line_element (in_order b))) ≡
      map line_element (in_order (entry_book b x num new))
  unfolding in_order line_element moved
  placed_lines x m num new h =
      rw (raised_lines, in_order_moved x.label (num + 1) b good.apart)
      (ap (λ (n : ℕ). placed x.label (record { label = x.label ++ (num ∷ []); name = n; next = 0; payload0 = new.payload0; payload1 = new.payload1 })
      (map line_element (map (moved x.label (num + 1)) (in_order b)))) (sym (last_snoc x.names new.name)) ∙
      placed_insert x.label (child_line x num new) (map (moved x.label (num + 1)) (in_order b))
      (for_map (moved x.label (num + 1)) (λ y. (within x.label y.label || before y.label x.label) ≡
      not (before (x.label ++ (num ∷ [])) y.label))
      (in_order b) (λ y k. place_test x.label num y.label (λ c t e. omega (arith, low x m y ((in_order_iff b y).0 k) c t e)))))
