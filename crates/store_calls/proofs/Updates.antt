-- What new store, entry and deletion answer and leave, accepted and refused.
use mathlib.Core.Path.{◌≡◌, refl, sym, ap, ◌∙◌}
use mathlib.Core.Logic.Iff
use mathlib.Core.Logic.{◌↔◌}
use mathlib.Core.List.{List, [], ◌∷◌, ◌++◌, append_assoc}
use mathlib.Core.Option.{Option, none, some}
use Prim.Native.Nat.{ℕ, ◌+◌, ◌-◌, ◌*◌}
use native.Mathlib.Omega.{arith}
use lib.ListN.{length, take, drop, replicate, length-append, length-replicate}
use lib.Seq.{take_at, drop_at}
use Rattle.basics.specs.Basics.{elim?, over}
use Rattle.basics.specs.Limits.{label_size, record_size}
use Rattle.basics.specs.Refusals.{Refusal}
use Rattle.naming.specs.Names.{Table, clues_of, table_check}
use Rattle.labelling.specs.Labels.{label_of, label_words, label_check}
use Rattle.storage.specs.Store.{Element, element_words, store_words, elements, find, element_at, size_check, sound_check}
use Rattle.store_calls.specs.Updates.{Answer, new_store_refusal, new_store, parent_check, space_check, entry_refusal, given, entered, enter, root_stays_check, found_check, deletion_refusal, without, delete}
use Rattle.basics.proofs.Refusals.{check_none, first_none, first_iff, last_iff, taken, refused_is}
use Rattle.basics.proofs.Outputs.{take_over, drop_over, length_over}
use Rattle.storage.proofs.Words.{length-element_words, length-store_words}
use Rattle.store_calls.proofs.Placed.{space_iff}
use Rattle.storage.proofs.Sizes.{slice_iff, size_iff, length_elements_read}
use Rattle.storage.proofs.SoundStore.{sound_fit}
use Rattle.store_calls.proofs.Parents.{ParentFacts, parent_check_iff}
use Rattle.store_calls.proofs.Changes.{length_entered, fit_entered, length_without, fit_without}

-- an answer carries the refusal that it hangs on
pub refusal_of_lem : (o : Option Refusal) (a : Answer) (f : Refusal → Answer) → a.refusal ≡ none → ((r : Refusal) → (f r).refusal ≡ some r) →
    (elim? o a f).refusal ≡ o
unfolding elim?
refusal_of_lem none a f h k = h
refusal_of_lem (some r) a f h k = k r

-- words written over a slice stand at the slice's start, and past them the slice is as it was
written : (ws out : List ℕ) (n : ℕ) → length ws ≡ n → (take n (over ws out) ≡ ws) × (drop n (over ws out) ≡ drop n out)
written ws out n e = rw (← e) (take_over ws out, drop_over ws out)

-- a slice keeps its length, whether the call is accepted or refused
length_slice : (o : Option Refusal) (a : Answer) (f : Refusal → Answer) (n : ℕ) → (o ≡ none → length a.slice ≡ n) →
    ((r : Refusal) → length (f r).slice ≡ n) → length (elim? o a f).slice ≡ n
unfolding elim?
length_slice none a f n h k = h refl
length_slice (some r) a f n h k = k r

-- a refused new store answers the count 0, and leaves the slice
pub new_store_refused : (ws : List ℕ) (root p0 p1 : ℕ) (r : Refusal) → (new_store ws root p0 p1).refusal ≡ some r →
    new_store ws root p0 p1 ≡ record { refusal = some r; count = 0; label = []; slice = ws }
unfolding new_store
new_store_refused ws root p0 p1 r e = refused_is (λ a. a.refusal) _ _ _ refl (λ r. refl) r e

-- what an accepted new store answers and leaves: one record, the root's, with f = 0
pub record NewStoreTaken (ws : List ℕ) (root p0 p1 : ℕ) (a : Answer) : Type 0 where
  pub counted : a.count ≡ 1
  pub unlabelled : a.label ≡ []
  pub words : take record_size a.slice ≡ element_words (record { label = []; name = root; next = 0; payload0 = p0; payload1 = p1 })
  pub rest : drop record_size a.slice ≡ drop record_size ws

-- an accepted new store answers one record, and leaves the root's
pub new_store_taken : (ws : List ℕ) (root p0 p1 : ℕ) → (new_store ws root p0 p1).refusal ≡ none → NewStoreTaken ws root p0 p1 (new_store ws root p0 p1)
unfolding new_store
new_store_taken ws root p0 p1 e =
    let e0 : Element = record { label = []; name = root; next = 0; payload0 = p0; payload1 = p1 } in
    let passed : new_store_refusal (length ws) root ≡ none = sym (refusal_of_lem _ _ _ refl (λ r. refl)) ∙ e in
    let (words, rest) = written (element_words e0) ws record_size (length-element_words e0 (omega arith)) in
    rw (taken (new_store_refusal (length ws) root) _ _ passed) (record { counted = refl; unlabelled = refl; words = words; rest = rest })

-- a new store leaves the slice as long as it was
pub new_store_slice_lem : (ws : List ℕ) (root p0 p1 : ℕ) → length (new_store ws root p0 p1).slice ≡ length ws
unfolding new_store new_store_refusal
new_store_slice_lem ws root p0 p1 = length_slice _ _ _ (length ws)
    (λ e.
    let e0 : Element = record { label = []; name = root; next = 0; payload0 = p0; payload1 = p1 } in
    let (whole, positive) = (slice_iff (length ws)).0 (check_none _ _ _ (first_none _ _ e).0) in
    length_over (element_words e0) ws (omega (arith, length-element_words e0 (omega arith))))
    (λ r. refl)

module _ (rows : Table) (ws : List ℕ) (count : ℕ) (lw : List ℕ) where
  -- the elements in use before the call
  abbrev es : List Element
  es = elements count ws

  -- the facts of an accepted entry: each of its checks has passed
  pub record EntryPassed (name : ℕ) : Type 0 where
    pub table : table_check rows ≡ none
    pub size : size_check (length ws) count ≡ none
    pub sound : sound_check (clues_of rows) count ws ≡ none
    pub label : label_check lw ≡ none
    pub parent : parent_check (clues_of rows) (find (label_of lw) es) name ≡ none
    pub space : space_check (length ws) count ≡ none

  -- an entry is accepted exactly if all its checks pass
  pub entry_passed : (name : ℕ) → entry_refusal rows ws count lw name ≡ none ↔ EntryPassed name
  unfolding entry_refusal
  entry_passed name = Iff.trans
      (first_iff _ _ Iff.rfl (first_iff _ _ Iff.rfl (first_iff _ _ Iff.rfl (first_iff _ _ Iff.rfl (first_iff _ _ Iff.rfl (last_iff _ Iff.rfl)))))) (
        λ h. record { table = h.0; size = h.1.0; sound = h.1.1.0; label = h.1.1.1.0; parent = h.1.1.1.1.0; space = h.1.1.1.1.1 },
        λ p. (p.table, (p.size, (p.sound, (p.label, (p.parent, p.space))))),
      )

  module _ (name p0 p1 : ℕ) where
    -- a refused entry answers the count it was given and sixteen zeros, and leaves the slice
    pub enter_refused : (r : Refusal) → (enter rows ws count lw name p0 p1).refusal ≡ some r →
        enter rows ws count lw name p0 p1 ≡ record { refusal = some r; count = count; label = replicate label_size 0; slice = ws }
    unfolding enter
    enter_refused r e = refused_is (λ a. a.refusal) _ _ _ refl (λ r. refl) r e

    -- what an accepted entry answers and leaves: one record more, and the new label
    pub record EntryTaken (a : Answer) : Type 0 where
      pub parent : Element
      pub found : find (label_of lw) es ≡ some parent
      pub counted : a.count ≡ count + 1
      pub labelled : a.label ≡ label_words (parent.label ++ (given (clues_of rows) parent name ∷ []))
      pub words : take (record_size * (count + 1)) a.slice ≡ store_words (entered (clues_of rows) es parent name p0 p1)
      pub rest : drop (record_size * (count + 1)) a.slice ≡ drop (record_size * (count + 1)) ws

    module _ (passed : EntryPassed name) where
      -- the parent of an accepted entry
      below : ParentFacts (clues_of rows) (find (label_of lw) es) name
      below = (parent_check_iff (clues_of rows) (find (label_of lw) es) name).0 passed.parent

      -- the elements after an accepted entry
      abbrev after : List Element
      after = entered (clues_of rows) es below.parent name p0 p1

      -- the parent of an accepted entry is the element that the entry reads
      parent_read : element_at (label_of lw) es ≡ below.parent
      unfolding element_at elim?
      parent_read = rw below.stands

      -- the elements after an accepted entry take the words of one record more
      length_after : length (store_words after) ≡ record_size * (count + 1)
      length_after = omega (
        arith,
        length-store_words after (fit_entered (clues_of rows) es below.parent name p0 p1 (sound_fit (clues_of rows) ws count passed.sound) below.high),
        length_entered (clues_of rows) es below.parent name p0 p1,
        length_elements_read count ws,
      )

    -- an accepted entry answers one record more and the new label, and leaves the records after it
    pub enter_taken : (enter rows ws count lw name p0 p1).refusal ≡ none → EntryTaken (enter rows ws count lw name p0 p1)
    unfolding enter
    enter_taken e =
        let none_refused : entry_refusal rows ws count lw name ≡ none = sym (refusal_of_lem _ _ _ refl (λ r. refl)) ∙ e in
        let passed = (entry_passed name).0 none_refused in
        let (words, rest) = written (store_words (after passed)) ws (record_size * (count + 1)) (length_after passed) in
        rw (taken (entry_refusal rows ws count lw name) _ _ none_refused, parent_read passed) (record {
          parent = (below passed).parent;
          found = (below passed).stands;
          counted = refl;
          labelled = refl;
          words = words;
          rest = rest;
        })

    -- an entry leaves the slice as long as it was
    pub enter_slice : length (enter rows ws count lw name p0 p1).slice ≡ length ws
    unfolding enter
    enter_slice = length_slice _ _ _ (length ws) (λ e.
        let passed = (entry_passed name).0 e in
        rw (parent_read passed)
        (length_over (store_words (after passed)) ws (omega (arith, length_after passed, ((space_iff (length ws) count).0 passed.space).0))))
        (λ r. refl)

  -- the facts of an accepted deletion: each of its checks has passed
  pub record DeletionPassed : Type 0 where
    pub table : table_check rows ≡ none
    pub size : size_check (length ws) count ≡ none
    pub sound : sound_check (clues_of rows) count ws ≡ none
    pub label : label_check lw ≡ none
    pub stays : root_stays_check (label_of lw) ≡ none
    pub found : found_check (find (label_of lw) es) ≡ none

  -- a deletion is accepted exactly if all its checks pass
  pub deletion_passed : deletion_refusal rows ws count lw ≡ none ↔ DeletionPassed
  unfolding deletion_refusal
  deletion_passed = Iff.trans
      (first_iff _ _ Iff.rfl (first_iff _ _ Iff.rfl (first_iff _ _ Iff.rfl (first_iff _ _ Iff.rfl (first_iff _ _ Iff.rfl (last_iff _ Iff.rfl)))))) (
        λ h. record { table = h.0; size = h.1.0; sound = h.1.1.0; label = h.1.1.1.0; stays = h.1.1.1.1.0; found = h.1.1.1.1.1 },
        λ p. (p.table, (p.size, (p.sound, (p.label, (p.stays, p.found))))),
      )

  -- a refused deletion answers the count it was given, and leaves the slice
  pub delete_refused : (r : Refusal) → (delete rows ws count lw).refusal ≡ some r →
      delete rows ws count lw ≡ record { refusal = some r; count = count; label = []; slice = ws }
  unfolding delete
  delete_refused r e = refused_is (λ a. a.refusal) _ _ _ refl (λ r. refl) r e

  -- the elements that a deletion leaves
  abbrev left : List Element
  left = without (label_of lw) es

  -- What an accepted deletion answers and leaves: the records of the elements left, zeros in the freed ones,
  -- and past the records in use what stood there.
  pub record DeletionTaken (a : Answer) : Type 0 where
    pub counted : a.count ≡ length left
    pub unlabelled : a.label ≡ []
    pub words : take (record_size * length left) a.slice ≡ store_words left
    pub freed : take (record_size * (count - length left)) (drop (record_size * length left) a.slice) ≡ replicate (record_size * (count - length left)) 0
    pub rest : drop (record_size * count) a.slice ≡ drop (record_size * count) ws

  -- the words that an accepted deletion writes
  abbrev cleared : List ℕ
  cleared = store_words left ++ replicate (record_size * (count - length left)) 0

  module _ (passed : DeletionPassed) where
    -- the elements that a deletion leaves take twenty words each
    length_left : length (store_words left) ≡ record_size * length left
    length_left = length-store_words left (fit_without (label_of lw) es (sound_fit (clues_of rows) ws count passed.sound))

    -- a deletion writes as many words as were in use
    length_cleared : length cleared ≡ record_size * count
    length_cleared = omega (
      arith,
      length-append (store_words left) (replicate (record_size * (count - length left)) 0),
      length_left,
      length-replicate {A = ℕ} (record_size * (count - length left)) 0,
      length_without (label_of lw) es,
      length_elements_read count ws,
    )

  -- an accepted deletion answers how many elements are left, and leaves their records and zeros
  pub delete_taken : (delete rows ws count lw).refusal ≡ none → DeletionTaken (delete rows ws count lw)
  unfolding delete over
  delete_taken e =
      let none_refused : deletion_refusal rows ws count lw ≡ none = sym (refusal_of_lem _ _ _ refl (λ r. refl)) ∙ e in
      let passed = deletion_passed.0 none_refused in
      let zeros : List ℕ = replicate (record_size * (count - length left)) 0 in
      let tail : List ℕ = drop (length cleared) ws in
      let split : over cleared ws ≡ store_words left ++ (zeros ++ tail) = append_assoc (store_words left) zeros tail in
      rw (taken (deletion_refusal rows ws count lw) _ _ none_refused) (record {
        counted = refl;
        unlabelled = refl;
        words = ap (take (record_size * length left)) split ∙ take_at (store_words left) (zeros ++ tail) (record_size * length left) (length_left passed);
        freed =
            ap (take (record_size * (count - length left)))
            (ap (drop (record_size * length left)) split ∙ drop_at (store_words left) (zeros ++ tail) (record_size * length left) (length_left passed)) ∙
            take_at zeros tail (record_size * (count - length left)) (length-replicate {A = ℕ} (record_size * (count - length left)) 0);
        rest = (written cleared ws (record_size * count) (length_cleared passed)).1;
      })

  -- a deletion leaves the slice as long as it was
  pub delete_slice : length (delete rows ws count lw).slice ≡ length ws
  unfolding delete
  delete_slice = length_slice _ _ _ (length ws) (λ e.
      let passed = deletion_passed.0 e in
      length_over cleared ws (omega (arith, length_cleared passed, ((size_iff (length ws) count).0 passed.size).held)))
      (λ r. refl)
