-- The records of a good book are sound.
use mathlib.Core.Path.{◌≡◌, refl, sym, ap, subst, ◌∙◌}
use mathlib.Core.Logic.{◌⊎◌, inl, inr, ⊎_elim}
use mathlib.Core.Bool.{Bool, true, false, cond, ◌||◌, not}
use mathlib.Core.List.Memᴰ
use mathlib.Core.List.{List, [], ◌∷◌, ◌++◌, map}
use mathlib.Core.Option
use mathlib.Core.Option.{none, some}
use Prim.Native.Nat.{ℕ, ◌≤◌, ◌<◌}
use native.Mathlib.Omega.{arith}
use lib.ListN.{length, get_or}
use lib.Seq.{take_at}
use lib.Dec.{T, ltb, eqb, eqb_refl, le→leb, lt→ltb}
use Rattle.basics.specs.Basics.{◌∈◌, elim?, Ascending, none_left, one_more_lem, last}
use Rattle.basics.specs.Limits.{label_size, max_depth, max_name}
use Rattle.naming.specs.Names.{Clues, led, is_name}
use Rattle.labelling.specs.Labels.{Label, before, label_words, decode, same, above}
use Rattle.storage.specs.Store.{Element, element_words, find, laid_out, closed, leads, broken, fault}
use Rattle.book.specs.Book.{Line, Book, line_element, line_at, in_order, sooner}
use Rattle.basics.proofs.Tests.{Tells, passes, fails, and_iff, eq?}
use Rattle.basics.proofs.Lists.{here, there, here_or_there, nowhere, for_cons}
use Rattle.labelling.proofs.LabelOrder.{before_order, before_one_way, above_before, before_nonroot, above_last}
use Rattle.labelling.proofs.Decode.{led_end, path_names}
use Rattle.labelling.proofs.LabelWords.{length-label_words, label_words_good}
use Rattle.storage.proofs.Words.{read_element_lem}
use Rattle.book.proofs.InOrder.{line_at_mem, line_at_found, in_order_iff, in_order_ascending}
use Rattle.book.proofs.Good.{GoodLine, Good}
use Rattle.storage.proofs.Relaid.{test_passes}

-- finding an element is finding its line
pub find_lines : (l : Label) (s : Book) → find l (map line_element s) ≡ Option.map line_element (line_at l s)
unfolding find line_at line_element
find_lines l [] = refl
find_lines l (x ∷ s) = go (same x.label l) (find_lines l s)
  where
    go : (c : Bool) → find l (map line_element s) ≡ Option.map line_element (line_at l s) →
        cond c (some (line_element x)) (find l (map line_element s)) ≡ Option.map line_element (cond c (some x) (line_at l s))
    go true e = refl
    go false e = e

-- a good line has the next number 0 where nothing may stand below it
is_closed : (cl : Clues) (root : ℕ) (x : Line) → GoodLine cl root x → T (closed cl (line_element x))
unfolding closed line_element
is_closed cl root x h = go _ (eq? (length (cl (last x.names))) 0) _ (eq? (length x.label) max_depth)
  where
    go : (c : Bool) → Tells (length (cl (last x.names)) ≡ 0) c → (d : Bool) → Tells (length x.label ≡ max_depth) d → T (not (c || d) || eqb x.next 0)
    go true (passes e) d k = subst (λ n. T (eqb n 0)) (sym (h.childless e)) tt
    go false (fails n) true (passes e) = subst (λ n. T (eqb n 0)) (sym (h.deepest e)) tt
    go false n false k = tt

-- word 0 of an element's record is the depth
depth_word : (e : Element) → get_or (element_words e) 0 0 ≡ length e.label
unfolding element_words label_words
depth_word e = refl

-- the record of a good line is laid out as a label
laid_record : (cl : Clues) (root : ℕ) (x : Line) → GoodLine cl root x → T (laid_out (element_words (line_element x)))
unfolding element_words line_element laid_out
laid_record cl root x h =
    rw (take_at (label_words x.label) (last x.names ∷ x.next ∷ x.payload0 ∷ x.payload1 ∷ []) label_size (length-label_words x.label h.labelled.shallow))
    (label_words_good x.label h.labelled)

-- the line with the root's label has the root's name
root_name : (cl : Clues) (root : ℕ) (x : Line) → GoodLine cl root x → x.label ≡ [] → last x.names ≡ root
unfolding decode last
root_name cl root x h e = ap last (path_names (sym h.decodes ∙ ap (decode cl root) e))

-- the record of the root's line is sound as record 0
root_sound : (cl : Clues) (root : ℕ) (x : Line) → GoodLine cl root x → root ≤ max_name → x.label ≡ [] → broken cl [] (element_words (line_element x)) ≡ none
unfolding broken line_element is_name
root_sound cl root x h r e =
    let name = root_name cl root x h e in
    test_passes _ _ _
    ((and_iff (laid_out (element_words (line_element x))) (eqb (get_or (element_words (line_element x)) 0 0) 0)).1
    (laid_record cl root x h, subst (λ d. T (eqb d 0)) (sym (depth_word (line_element x) ∙ ap length e)) tt)) ∙
    rw (read_element_lem (line_element x) h.labelled.shallow)
    (test_passes _ _ _ (le→leb (last x.names) max_name (omega arith)) ∙ test_passes _ _ _ (is_closed cl root x h))

-- the record of a line below the root is sound after records among which is its parent's
below_sound : (cl : Clues) (root : ℕ) (p : Line) (done : Book) (x up : Line) → GoodLine cl root x → T (sooner p x) → 0 < length x.label →
    line_at (above x.label) (p ∷ done) ≡ some up → led (cl (last up.names)) (last x.label) ≡ some (last x.names) → last x.label < up.next →
    broken cl (map line_element (p ∷ done)) (element_words (line_element x)) ≡ none
unfolding broken line_element elim? leads
below_sound cl root p done x up h k n f g i =
    test_passes _ _ _
    ((and_iff (laid_out (element_words (line_element x))) (ltb 0 (get_or (element_words (line_element x)) 0 0))).1
    (laid_record cl root x h, subst (λ d. T (ltb 0 d)) (sym (depth_word (line_element x))) (lt→ltb 0 (length x.label) n))) ∙
    rw (read_element_lem (line_element x) h.labelled.shallow)
    (test_passes _ _ _ k ∙
    rw (find_lines (above x.label) (p ∷ done) ∙ ap (Option.map line_element) f)
    (rw g (test_passes _ _ _ (eqb_refl (last x.names)) ∙ test_passes _ _ _ (lt→ltb (last x.label) up.next i) ∙ test_passes _ _ _
    (is_closed cl root x h))))

-- a book in two parts, the lines done and those to come
record Parts (b done rest : Book) : Type 0 where
  split : (y : Line) → y ∈ b → y ∈ done ⊎ y ∈ rest
  done_in : (y : Line) → y ∈ done → y ∈ b
  rest_in : (y : Line) → y ∈ rest → y ∈ b
  order : (y z : Line) → y ∈ done → z ∈ rest → T (sooner y z)

-- one line more is done
one_done : {b done rest : Book} {x : Line} → Parts b done (x ∷ rest) → ((y : Line) → y ∈ rest → T (sooner x y)) → Parts b (x ∷ done) rest
one_done {x = x} parts first = record {
  split = λ y m. ⊎_elim (λ k. inl (there k)) (λ k. ⊎_elim (λ e. inl (here e)) inr (here_or_there k)) (parts.split y m);
  done_in = for_cons _ (parts.rest_in x (here refl)) parts.done_in;
  rest_in = λ y m. parts.rest_in y (there m);
  order = λ y z m k. for_cons (λ y. T (sooner y z)) (first z k) (λ y m. parts.order y z m (there k)) y m;
}

module _ {cl : Clues} {root : ℕ} {b : Book} {g : List Label} (good : Good cl root b g) where
  -- the parent's line of the first line to come is done
  parent_done : (done : Book) (x : Line) (rest : Book) → Parts b done (x ∷ rest) → ((y : Line) → y ∈ rest → T (sooner x y)) → 0 < length x.label →
      (y : Line) × y ∈ done × (y.label ≡ above x.label)
  parent_done done x rest parts first n =
      let (y, k, f) = good.parents x (parts.rest_in x (here refl)) (above x.label) (last x.label) (above_last x.label n) in
      (y, ⊎_elim (λ d. d) (λ t. absurd (not_after y f t)) (parts.split y k), f)
    where
      not_after : (y : Line) → y.label ≡ above x.label → y ∈ x ∷ rest → ⊥
      not_after y f t =
          let u : T (sooner y x) = subst (λ l. T (before l x.label)) (sym f) (above_before x.label n) in
          ⊎_elim (λ e. before_order.never x.label (subst (λ (z : Line). T (sooner z x)) e u))
          (λ t. before_one_way.asym x.label y.label (first y t) u) (here_or_there t)

  -- the record of the first line to come is sound after those done
  next_sound : (done : Book) (x : Line) (rest : Book) → Parts b done (x ∷ rest) → ((y : Line) → y ∈ rest → T (sooner x y)) →
      broken cl (map line_element done) (element_words (line_element x)) ≡ none
  next_sound [] x rest parts first = go x.label refl
    where
      m : x ∈ b
      m = parts.rest_in x (here refl)

      go : (l : Label) → x.label ≡ l → broken cl [] (element_words (line_element x)) ≡ none
      go [] e = root_sound cl root x (good.lines x m) good.root_is_name e
      go (c ∷ l) e = absurd (nowhere (parent_done [] x rest parts first (omega (arith, ap length e))).1)
  next_sound (p ∷ done) x rest parts first =
      let m = parts.rest_in x (here refl) in
      let k = parts.order p x (here refl) (here refl) in
      let n = before_nonroot p.label x.label k in
      let (y, d, f) = parent_done (p ∷ done) x rest parts first n in
      let (up, e) = line_at_found (p ∷ done) y d in
      let e' : line_at (above x.label) (p ∷ done) ≡ some up = ap (λ l. line_at l (p ∷ done)) (sym f) ∙ e in
      let (i, j) = line_at_mem (above x.label) (p ∷ done) up e' in
      let c = above_last x.label n in
      below_sound cl root p done x up (good.lines x m) k n e'
      (led_end cl root (above x.label) up.names x.names (last x.label)
      (ap (decode cl root) (sym j) ∙ (good.lines up (parts.done_in up i)).decodes) (ap (decode cl root) (sym c) ∙ (good.lines x m).decodes))
      (good.below up (parts.done_in up i) (last x.label) (Memᴰ.cast (ap (λ l. l ++ (last x.label ∷ [])) j ∙ sym c) (good.given_lines x m)))

  -- the records of all lines to come are sound after those done
  sound_from : (done rest : Book) → Parts b done rest → Ascending sooner rest → fault cl (map line_element done) (map element_words (map line_element rest)) ≡ none
  unfolding fault elim? line_element
  sound_from done [] parts none_left = refl
  sound_from done (x ∷ rest) parts (one_more_lem first a) =
      rw (next_sound done x rest parts first, read_element_lem (line_element x) (good.lines x (parts.rest_in x (here refl))).labelled.shallow)
      (sound_from (x ∷ done) rest (one_done parts first) a)

  -- no record of a good book breaks a rule
  pub sound : fault cl [] (map element_words (map line_element (in_order b))) ≡ none
  sound = sound_from [] (in_order b) (record {
    split = λ y m. inr ((in_order_iff b y).1 m);
    done_in = λ y m. absurd (nowhere m);
    rest_in = λ y m. (in_order_iff b y).0 m;
    order = λ y z m k. absurd (nowhere m);
  }) (in_order_ascending b good.apart)
