-- What an entry and a deletion do to the elements: which stand afterwards, and the number that an entry gives.
use mathlib.Core.Path.{◌≡◌, refl, sym, ap, subst, ◌∙◌}
use mathlib.Core.Logic.Iff
use mathlib.Core.Logic.{◌↔◌, ◌⊎◌, inl, inr, ⊎_elim, ⊎_map}
use mathlib.Core.Bool.{Bool, true, false, cond, ◌||◌, not}
use mathlib.Core.List.Memᴰ
use mathlib.Core.List.{List, [], ◌∷◌, ◌++◌, map}
use mathlib.Core.Option.{some}
use Prim.Native.Nat.{ℕ, suc, ◌+◌, ◌<◌, ◌≤◌}
use native.Mathlib.Omega.{arith}
use lib.ListN.{length, length-append, length-map}
use lib.Dec.{T, T_not, not_T, ltb→lt}
use Rattle.basics.specs.Basics.{◌∈◌, elim?, Ascending, none_left, one_more_lem}
use Rattle.basics.specs.Limits.{max_depth}
use Rattle.naming.specs.Names.{Clues, place_in}
use Rattle.labelling.specs.Numbers.{number, Least}
use Rattle.labelling.specs.Labels.{Label, before, within, same}
use Rattle.storage.specs.Store.{Element, ahead}
use Rattle.store_calls.specs.Updates.{given, raised, placed, entered, without}
use Rattle.basics.proofs.Tests.{is_true, is_false, test_equal, or_iff, decide, Tells, passes, fails, tells}
use Rattle.basics.proofs.Lists.{here, there, here_or_there, nowhere, for_cons, for_map, keep_iff, keep_ascending, map_ascending, length_keep}
use Rattle.naming.proofs.NameTables.{placed_at}
use Rattle.labelling.proofs.Number.{number_least}
use Rattle.labelling.proofs.LabelOrder.{before_order, before_one_way, before_iff, before_extend, extend_before, before_cancel, within_iff, within_self, same_alike}
use Rattle.storage.proofs.Words.{Fit}
use Rattle.store_calls.proofs.Placed.{length_placed, placed_only}

-- the number given below a parent is the one for the place of the name in the parent's clue
pub given_number : (cl : Clues) (p : Element) (name k : ℕ) → place_in name (cl p.name) ≡ some k → given cl p name ≡ number (length (cl p.name)) k p.next
unfolding given elim?
given_number cl p name k e = rw e

-- The number given is the least that is at least the parent's next number
-- and leaves the name's place when divided by the clue's length.
pub given_least : (cl : Clues) (p : Element) (name k : ℕ) → place_in name (cl p.name) ≡ some k → Least (length (cl p.name)) k p.next (given cl p name)
given_least cl p name k e =
    subst (Least (length (cl p.name)) k p.next) (sym (given_number cl p name k e))
    (number_least (length (cl p.name)) k p.next (placed_at name (cl p.name) k e).0)

-- an element with another label is not raised
pub raised_other : (l : Label) (f : ℕ) (e : Element) → (e.label ≡ l → ⊥) → raised l f e ≡ e
unfolding raised
raised_other l f e n = rw (is_false (same e.label l) (λ t. n ((same_alike e.label l).0 t)))

-- of the element with the label only the next number changes
pub raised_same : (f : ℕ) (e : Element) →
    raised e.label f e ≡ record { label = e.label; name = e.name; next = f; payload0 = e.payload0; payload1 = e.payload1 }
unfolding raised
raised_same f e = rw (is_true (same e.label e.label) ((same_alike e.label e.label).1 refl))

-- placing adds the new element and no other
pub placed_iff : (l : Label) (new : Element) (es : List Element) (e : Element) → e ∈ placed l new es ↔ ((e ≡ new) ⊎ e ∈ es)
unfolding placed
placed_iff l new [] e = (here_or_there, ⊎_elim here there)
placed_iff l new (x ∷ es) e = go (within l x.label || before x.label l) (placed_iff l new es e)
  where
    go : (c : Bool) → e ∈ placed l new es ↔ ((e ≡ new) ⊎ e ∈ es) → e ∈ cond c (x ∷ placed l new es) (new ∷ x ∷ es) ↔ ((e ≡ new) ⊎ e ∈ x ∷ es)
    go true below = (
      λ m. ⊎_elim (λ d. inr (here d)) (λ k. ⊎_map (λ d. d) there (below.0 k)) (here_or_there m),
      ⊎_elim (λ d. there (below.1 (inl d))) (λ m. ⊎_elim here (λ k. there (below.1 (inr k))) (here_or_there m)),
    )
    go false below = (here_or_there, ⊎_elim here there)

-- Where every number below a parent is less than a new one, a label goes on from the parent's or comes before it
-- exactly if the new child's label does not come before that label.
pub place_test : (l : Label) (num : ℕ) (m : Label) → ((c : ℕ) (rest : Label) → m ≡ l ++ (c ∷ rest) → c < num) →
    (within l m || before m l) ≡ not (before (l ++ (num ∷ [])) m)
unfolding before
place_test l num m low = test_equal _ _ (
  λ h. not_T (before new m) (⊎_elim (λ w. let r = (within_iff l m).0 w in inside r.0 r.1)
      (λ k. before_one_way.asym m new (before_extend m l (num ∷ []) k)) ((or_iff (within l m) (before m l)).0 h)),
  λ h. (or_iff (within l m) (before m l)).1 (⊎_elim inl (λ w. inr (earlier w (T_not (before new m) h))) (decide (within l m))),
)
  where
    new : Label
    new = l ++ (num ∷ [])

    inside : (rest : Label) → m ≡ l ++ rest → T (before new m) → ⊥
    inside [] e h = before_cancel l (num ∷ []) [] (subst (λ n. T (before new n)) e h)
    inside (c ∷ rest) e h =
        let k = low c rest e in
        ⊎_elim (λ i. omega (arith, ltb→lt num c i)) (λ i. omega arith)
        ((before_iff num c [] rest).0 (before_cancel l (num ∷ []) (c ∷ rest) (subst (λ n. T (before new n)) e h)))

    earlier : (T (within l m) → ⊥) → (T (before new m) → ⊥) → T (before m l)
    earlier w n =
        ⊎_elim (λ h. h) (⊎_elim (λ e. absurd (w (rw e (within_self l)))) (λ h. absurd (n (extend_before l m (num ∷ []) h w)))) (before_order.total m l)

-- Placed behind its parent's subtree, a child whose number is above all that stand below the parent
-- keeps the label order.
pub placed_ascending : (l : Label) (num : ℕ) (new : Element) → new.label ≡ l ++ (num ∷ []) → {es : List Element} → Ascending ahead es →
    ((e : Element) → e ∈ es → (c : ℕ) (rest : Label) → e.label ≡ l ++ (c ∷ rest) → c < num) → Ascending ahead (placed l new es)
unfolding placed
placed_ascending l num new is none_left low = one_more_lem (λ e m. absurd (nowhere m)) none_left
placed_ascending l num new is (one_more_lem {a = x} {more} h asc) low =
    rw (place_test l num x.label (low x (here refl)), ← is)
    (go (before new.label x.label) (tells _ Iff.rfl) (placed_ascending l num new is asc (λ e m. low e (there m))))
  where
    other : new.label ≡ x.label → ⊥
    other e = omega (arith, low x (here refl) num [] (sym e ∙ is))

    later : (T (before new.label x.label) → ⊥) → T (ahead x new)
    later n = ⊎_elim (λ k. k) (⊎_elim (λ e. absurd (other (sym e))) (λ k. absurd (n k))) (before_order.total x.label new.label)

    go : (b : Bool) → Tells (T (before new.label x.label)) b → Ascending ahead (placed l new more) →
        Ascending ahead (cond (not b) (x ∷ placed l new more) (new ∷ x ∷ more))
    go true (passes k) below =
        one_more_lem (for_cons (λ e. T (ahead new e)) k (λ e m. before_order.chain new.label x.label e.label k (h e m))) (one_more_lem h asc)
    go false (fails n) below =
        one_more_lem (λ e m. ⊎_elim (λ d. subst (λ e. T (ahead x e)) (sym d) (later n)) (h e) ((placed_iff l new more e).0 m)) below

module _ (cl : Clues) (es : List Element) (p : Element) (name p0 p1 : ℕ) where
  -- After an entry stand the new element, its label the parent's with the number given,
  -- and the others, of which the parent has a next number one above that number.
  pub entered_iff : (e : Element) → e ∈ entered cl es p name p0 p1 ↔
      ((e ≡ record { label = p.label ++ (given cl p name ∷ []); name = name; next = 0; payload0 = p0; payload1 = p1 }) ⊎
      ((d : Element) × d ∈ es × (e ≡ raised p.label (given cl p name + 1) d)))
  unfolding entered
  entered_iff e = Iff.trans (placed_iff p.label _ (map (raised p.label (given cl p name + 1)) es) e) (
    ⊎_map (λ h. h) (λ m. let (d, k, f) = Memᴰ.of_map _ es m in (d, k, sym f)),
    ⊎_map (λ h. h) (λ h. Memᴰ.cast h.2 (Memᴰ.map (raised p.label (given cl p name + 1)) h.1)),
  )

  -- after an entry the elements are in label order,
  -- where they were before and every number below the parent is less than the parent's next number
  pub entered_ascending : (k : ℕ) → place_in name (cl p.name) ≡ some k → Ascending ahead es →
      ((e : Element) → e ∈ es → (c : ℕ) (rest : Label) → e.label ≡ p.label ++ (c ∷ rest) → c < p.next) → Ascending ahead (entered cl es p name p0 p1)
  unfolding entered raised
  entered_ascending k place asc low =
      placed_ascending p.label (given cl p name) _ refl (map_ascending (raised p.label (given cl p name + 1)) (λ a b h. h) asc)
      (for_map (raised p.label (given cl p name + 1)) (λ e. (c : ℕ) (rest : Label) → e.label ≡ p.label ++ (c ∷ rest) → c < given cl p name) es
      (λ e m c rest d. omega (arith, low e m c rest d, (given_least cl p name k place).high)))

  -- an entry adds one element
  pub length_entered : length (entered cl es p name p0 p1) ≡ suc (length es)
  unfolding entered
  length_entered = length_placed p.label _ _ ∙ ap suc (length-map es (raised p.label (given cl p name + 1)))

  -- the elements after an entry below a parent above the deepest level fit their records
  pub fit_entered : Fit es → length p.label < max_depth → Fit (entered cl es p name p0 p1)
  unfolding entered raised
  fit_entered fit deep =
      placed_only p.label _ _ (λ e. length e.label ≤ max_depth) (omega (arith, length-append p.label (given cl p name ∷ [])))
      (for_map (raised p.label (given cl p name + 1)) (λ e. length e.label ≤ max_depth) es fit)

module _ (l : Label) (es : List Element) where
  -- a deletion leaves the elements whose labels do not begin with the one handed in, and no others
  pub without_iff : (e : Element) → e ∈ without l es ↔ (e ∈ es × ((rest : Label) → e.label ≡ l ++ rest → ⊥))
  unfolding without
  without_iff e =
      let kept = keep_iff (λ (e : Element). not (within l e.label)) es e in (
        λ m. let (k, t) = kept.0 m in (k, λ rest f. T_not (within l e.label) t ((within_iff l e.label).1 (rest, f))),
        λ h. kept.1 (h.0, not_T (within l e.label) (λ t. let (rest, f) = (within_iff l e.label).0 t in h.1 rest f)),
      )

  -- a deletion leaves no more elements than there were
  pub length_without : length (without l es) ≤ length es
  unfolding without
  length_without = length_keep (λ (e : Element). not (within l e.label)) es

  -- the elements that a deletion leaves fit their records
  pub fit_without : Fit es → Fit (without l es)
  fit_without fit e m = fit e ((without_iff e).0 m).0

  -- a deletion keeps the label order
  pub without_ascending : Ascending ahead es → Ascending ahead (without l es)
  unfolding without
  without_ascending = keep_ascending (λ (e : Element). not (within l e.label))
