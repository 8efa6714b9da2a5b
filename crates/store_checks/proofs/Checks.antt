-- The checks of a store in turn: what each way out of the code tells of the definition.
use Prim.Native.Nat.{ℕ, ◌*◌, ◌≤◌}
use mathlib.Core.Path.{◌≡◌, sym, ap, ◌∙◌}
use mathlib.Core.List.{List}
use native.Mathlib.Omega.{arith}
use lib.ListN.{length}
use Rattle.basics.specs.Limits.{record_size}
use Rattle.naming.specs.Names.{Table, clues_of, table_check}
use Rattle.storage.specs.Store as spec
use Rattle.basics.proofs.Refusals.{first_rest, first_last}
use Rattle.storage.proofs.Sizes.{size_iff}
use Rattle.refusals.specs.Answers.{verdict_of}
use Rattle.refusals.specs.declared.Refusal.{Refusal}
use Rattle.refusals.specs.declared.Verdict.{Verdict}
use Rattle.refusals.specs.declared.Verdict.TheVariants as verdict
use Rattle.refusals.proofs.Verdicts.{passed_none, first_refused}
use Rattle.store_checks.specs.Stores.{store_check}

-- sizes that passed leave room for the records in use
pub size_room : (len count : ℕ) {v : Verdict} → v ≡ verdict_of (spec.size_check len count) → v ≡ verdict.Passed → count * record_size ≤ len
size_room len count is e = omega (arith, ((size_iff len count).0 (passed_none _ is e)).held)

module _ (rows : Table) (ws : List ℕ) (count : ℕ) {v : Verdict} (is : v ≡ verdict_of (table_check rows)) where
  -- the refusal of a table is the store's
  pub store_table : {x : Refusal} → v ≡ verdict.Refused x → verdict.Refused x ≡ verdict_of (store_check rows ws count)
  unfolding store_check
  store_table e = sym e ∙ first_refused _ _ is e

  module _ (good : v ≡ verdict.Passed) {w : Verdict} (sized : w ≡ verdict_of (spec.size_check (length ws) count)) where
    -- the refusal of the sizes of a store with a good table is the store's
    pub store_size_lem : {x : Refusal} → w ≡ verdict.Refused x → verdict.Refused x ≡ verdict_of (store_check rows ws count)
    unfolding store_check
    store_size_lem e = sym e ∙ first_refused _ _ sized e ∙ ap verdict_of (sym (first_rest _ _ (passed_none _ is good)))

    -- the verdict on the records of a store with a good table and good sizes is the store's
    pub store_records : {u : Verdict} → w ≡ verdict.Passed → u ≡ verdict_of (spec.sound_check (clues_of rows) count ws) → u ≡ verdict_of (store_check rows ws count)
    unfolding store_check
    store_records e f = f ∙ ap verdict_of (sym (first_rest _ _ (passed_none _ is good) ∙ first_rest _ _ (passed_none _ sized e) ∙ first_last _))
