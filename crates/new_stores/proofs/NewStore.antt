-- What a new store answers and leaves, for each way out of its code.
use Prim.Native.Nat.{ℕ, ◌+◌, ◌*◌, ◌<◌, ◌≤◌}
use mathlib.Core.Path.{◌≡◌, sym, subst, ◌∙◌}
use mathlib.Core.Bool.{Bool, true, false, not}
use mathlib.Core.List.{List}
use native.Mathlib.Omega.{arith}
use lib.ListN.{length}
use lib.Dec.{T}
use borrow.Author.Tests.{le-leb, lt-leb, not-true, not-false}
use Rattle.basics.specs.Basics.{elim?, over}
use Rattle.basics.specs.Limits.{max_name, record_size}
use Rattle.basics.specs.Refusals.{refuse, check, first, store_size, bad_root}
use Rattle.naming.specs.Names.{is_name, root_check}
use Rattle.labelling.specs.Labels.{label_words}
use Rattle.storage.specs.Store.{element_words, is_slice}
use Rattle.store_calls.specs.Updates.{new_store_refusal, new_store}
use Rattle.storage.proofs.Sizes.{slice_iff}
use Rattle.refusals.specs.Answers.{verdict_of}
use Rattle.refusals.specs.declared.Verdict.{Verdict}
use Rattle.refusals.specs.declared.Verdict.TheVariants as verdict
use Rattle.moving.specs.Moves.{inserted}
use Rattle.changes.specs.Answers.{root_element, changed, change_of}

module _ (ws : List ℕ) (root p0 p1 : ℕ) {b : Bool} (is : b ≡ is_slice (length ws)) where
  -- a length that is no slice's is refused by 18
  pub new_odd : not b ≡ true → {v : Verdict} → v ≡ verdict_of (refuse store_size 0) →
      changed (record { verdict = v; count = 0 }) ws ≡ change_of (new_store ws root p0 p1)
  unfolding new_store new_store_refusal check first elim?
  new_odd e f = rw (f, ← is, not-true b e)

  module _ (e : not b ≡ false) where
    -- a root name above 63 is refused by 21
    pub new_high : max_name < root → {v : Verdict} → v ≡ verdict_of (refuse bad_root 0) →
        changed (record { verdict = v; count = 0 }) ws ≡ change_of (new_store ws root p0 p1)
    unfolding new_store new_store_refusal root_check is_name check first elim?
    new_high h f = rw (f, ← is, not-false b e, lt-leb root max_name h)

    -- the slice has room for one record
    pub new_room : record_size * (0 + 1) ≤ length ws
    new_room = let (whole, positive) = (slice_iff (length ws)).0 (subst T (sym (not-false b e) ∙ is) tt) in omega arith

    -- where nothing is refused, the root's record is put in as record 0
    pub new_done : root ≤ max_name → {rec lent ws' : List ℕ} → rec ≡ element_words (root_element root p0 p1) → lent ≡ rec → ws' ≡ inserted ws 0 0 lent →
        changed (record { verdict = verdict.Passed; count = 1 }) ws' ≡ change_of (new_store ws root p0 p1)
    unfolding new_store new_store_refusal root_check is_name check first elim? over inserted element_words label_words
    new_done h f g i = rw (i, g, f, ← is, not-false b e, le-leb root max_name h)
