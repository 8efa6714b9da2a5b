-- The next number of one element raised is one word of the store changed.
use Prim.Native.Nat.{ℕ, suc, ◌+◌, ◌*◌, ◌≤◌}
use mathlib.Core.Path.{◌≡◌, refl, sym, ap, ap₂, subst, ◌∙◌}
use mathlib.Core.Bool.{Bool, true, false, cond}
use mathlib.Core.List.{List, [], ◌∷◌, ◌++◌, map}
use mathlib.Core.Option
use mathlib.Core.Option.{Option, none, some, none-ne-some, some-injective}
use native.Mathlib.Omega.{arith}
use native.Mathlib.Nat.{zero-add, suc-add}
use lib.ListN.{length, set}
use lib.Seq.{set-append_left}
use lib.Dec.{T}
use Rattle.basics.specs.Basics.{◌∈◌, joined, Ascending, one_more_lem, leading}
use Rattle.basics.specs.Limits.{max_depth, record_size, next_word}
use Rattle.labelling.specs.Labels.{Label, before, same, label_words}
use Rattle.storage.specs.Store.{Element, element_words, store_words, ahead}
use Rattle.store_calls.specs.Updates.{raised}
use Rattle.basics.proofs.Tests.{is_true, is_false, Tells, passes as told, fails as untold}
use Rattle.basics.proofs.Lists.{here, there}
use Rattle.labelling.proofs.LabelOrder.{before_order, same_alike, same?}
use Rattle.labelling.proofs.LabelWords.{length-label_words}
use Rattle.storage.proofs.Words.{Fit, length-element_words}
use Rattle.lookup.specs.Places.{place_at, passes}

-- setting a place behind a list leaves the list
set_behind : {A : Type 0} (l m : List A) (i : ℕ) (a : A) → set (l ++ m) (length l + i) a ≡ l ++ set m i a
set_behind [] m i a = ap (λ k. set m k a) (zero-add i)
set_behind (x ∷ l) m i a = ap (λ k. set (x ∷ (l ++ m)) k a) (suc-add (length l) i) ∙ ap (◌∷◌ x) (set_behind l m i a)

module _ (l : Label) (f : ℕ) where
  -- an element with another label stays
  raised_other : (e : Element) → (e.label ≡ l → ⊥) → raised l f e ≡ e
  unfolding raised
  raised_other e n = rw (is_false (same e.label l) (λ t. n ((same_alike e.label l).0 t)))

  -- where no element has the label, all stay
  raised_none : (es : List Element) → ((e : Element) → e ∈ es → e.label ≡ l → ⊥) → map (raised l f) es ≡ es
  raised_none [] n = refl
  raised_none (e ∷ es) n = ap₂ ◌∷◌ (raised_other e (n e (here refl))) (raised_none es (λ x m. n x (there m)))

  -- of the element with the label word 17 is changed, and no other
  raised_own : (e : Element) → length e.label ≤ max_depth → e.label ≡ l → element_words (raised l f e) ≡ set (element_words e) next_word f
  unfolding raised element_words
  raised_own e fit h =
      let t : List ℕ = e.name ∷ e.next ∷ e.payload0 ∷ e.payload1 ∷ [] in
      let k : set (label_words e.label ++ t) next_word f ≡ label_words e.label ++ set t 1 f =
      ap (λ n. set (label_words e.label ++ t) (n + 1) f) (sym (length-label_words e.label fit)) ∙ set_behind (label_words e.label) t 1 f in
      rw (is_true (same e.label l) ((same_alike e.label l).1 h)) (sym k)

  -- raising changes no label, so as many elements pass as before
  pub leading_raised : (s : Bool) (m : Label) (es : List Element) → leading (passes s m) (map (raised l f) es) ≡ leading (passes s m) es
  unfolding leading passes raised
  leading_raised s m [] = refl
  leading_raised s m (e ∷ es) = ap (λ n. cond (passes s m e) (suc n) 0) (leading_raised s m es)

  -- of a store word 17 of the record at the label's place is changed, and no other
  pub words_raised : (es : List Element) → Fit es → Ascending ahead es → (a : ℕ) → place_at l es ≡ some a →
      store_words (map (raised l f) es) ≡ set (store_words es) (a * record_size + next_word) f
  unfolding store_words joined place_at
  words_raised [] fit o a q = absurd (none-ne-some a q)
  words_raised (e ∷ es) fit (one_more_lem u r) a q =
      go (same e.label l) (same? e.label l) (place_at l es) q (λ b. words_raised es (λ x m. fit x (there m)) r b)
    where
      shallow : length e.label ≤ max_depth
      shallow = fit e (here refl)

      others : e.label ≡ l → (x : Element) → x ∈ es → x.label ≡ l → ⊥
      others h x m k = before_order.never l (subst (λ n. T (before n l)) h (subst (λ n. T (before e.label n)) k (u x m)))

      go : (c : Bool) → Tells (e.label ≡ l) c → (o : Option ℕ) → cond c (some 0) (Option.map suc o) ≡ some a →
          ((b : ℕ) → o ≡ some b → store_words (map (raised l f) es) ≡ set (store_words es) (b * record_size + next_word) f) →
          element_words (raised l f e) ++ store_words (map (raised l f) es) ≡ set (element_words e ++ store_words es) (a * record_size + next_word) f
      go true (told h) o q below =
          let z : a * record_size + next_word ≡ next_word = omega (arith, some-injective 0 a q) in
          ap₂ (λ s t. s ++ store_words t) (raised_own e shallow h) (raised_none es (others h)) ∙
          sym (ap (λ k. set (element_words e ++ store_words es) k f) z ∙
          set-append_left (element_words e) (store_words es) next_word f (omega (arith, length-element_words e shallow)))
      go false (untold n) none q below = absurd (none-ne-some a q)
      go false (untold n) (some b) q below =
          let z : a * record_size + next_word ≡ length (element_words e) + (b * record_size + next_word) =
          omega (arith, some-injective (suc b) a q, length-element_words e shallow) in
          ap₂ (λ s t. element_words s ++ t) (raised_other e n) (below b refl) ∙
          sym (ap (λ k. set (element_words e ++ store_words es) k f) z ∙ set_behind (element_words e) (store_words es) (b * record_size + next_word) f)
