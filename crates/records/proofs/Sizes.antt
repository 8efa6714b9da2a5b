-- What each way out of the checks of sizes tells of the definitions.
use Prim.Native.Nat.{ℕ, ◌+◌, ◌*◌, ◌/◌, ◌%◌, ◌<◌, ◌≤◌}
use mathlib.Core.Path.{◌≡◌, ◌∙◌}
use mathlib.Core.Bool.{Bool, true, false, not}
use native.Mathlib.Omega.{arith}
use lib.Dec.{ltb, eqb}
use borrow.Author.Tests.{eq-eqb, ne_eqb, le-ltb, lt-ltb, le-leb, lt-leb, not-true, not-false}
use Rattle.basics.specs.Limits.{record_size, max_records}
use Rattle.basics.specs.Refusals.{check, refuse, store_size, no_space}
use Rattle.storage.specs.Store.{is_slice, size_check}
use Rattle.store_calls.specs.Updates.{space_check}
use Rattle.refusals.specs.Answers.{verdict_of}
use Rattle.refusals.specs.declared.Verdict.{Verdict}
use Rattle.refusals.specs.declared.Verdict.TheVariants as verdict

-- a length that is a multiple of 20 is a slice's where it is not 0
pub slice_multiple : (len : ℕ) → len % record_size ≡ 0 → ltb 0 len ≡ is_slice len
unfolding is_slice
slice_multiple len h = rw (eq-eqb _ _ h)

-- a length that is no multiple of 20 is no slice's
pub slice_odd : (len : ℕ) → (len % record_size ≡ 0 → ⊥) → eqb (len % record_size) 0 ≡ is_slice len
unfolding is_slice
slice_odd len h = rw (ne_eqb _ _ h)

module _ (len count : ℕ) {b : Bool} (is : b ≡ is_slice len) where
  -- a length that is no slice's is refused by 18
  pub size_odd : not b ≡ true → {v : Verdict} → v ≡ verdict_of (refuse store_size 0) → v ≡ verdict_of (size_check len count)
  unfolding size_check check
  size_odd e f = f ∙ rw (← is, not-true b e)

  module _ (e : not b ≡ false) where
    -- a count of 0 is refused by 18
    pub size_none : count ≡ 0 → {v : Verdict} → v ≡ verdict_of (refuse store_size 0) → v ≡ verdict_of (size_check len count)
    unfolding size_check check
    size_none h f = f ∙ rw (← is, not-false b e, h)

    module _ (some : count ≡ 0 → ⊥) where
      -- a count over the records of the slice is refused by 18
      pub size_over : len / record_size < count → {v : Verdict} → v ≡ verdict_of (refuse store_size 0) → v ≡ verdict_of (size_check len count)
      unfolding size_check check
      size_over h f =
          let o : len < record_size * count = omega arith in
          f ∙ rw (← is, not-false b e, lt-ltb 0 count (omega arith), lt-leb (record_size * count) len o)

      module _ (room : count ≤ len / record_size) where
        -- a count over 4,096 is refused by 18
        pub size_many : max_records < count → {v : Verdict} → v ≡ verdict_of (refuse store_size 0) → v ≡ verdict_of (size_check len count)
        unfolding size_check check
        size_many h f =
            f ∙ rw (← is, not-false b e, lt-ltb 0 count (omega arith), le-leb (record_size * count) len (omega arith), lt-leb count max_records h)

        -- sizes that none of the four facts rules out pass
        pub size_good : count ≤ max_records → verdict.Passed ≡ verdict_of (size_check len count)
        unfolding size_check check
        size_good h = rw (← is, not-false b e, lt-ltb 0 count (omega arith), le-leb (record_size * count) len (omega arith), le-leb count max_records h)

module _ (len count : ℕ) where
  -- where the slice has no free record, 13 is answered
  pub space_none : len / record_size ≤ count → {v : Verdict} → v ≡ verdict_of (refuse no_space 0) → v ≡ verdict_of (space_check len count)
  unfolding space_check check
  space_none h f = f ∙ rw (lt-leb (record_size * (count + 1)) len (omega arith))

  module _ (h : count < len / record_size) where
    -- where 4,096 records are in use, 13 is answered
    pub space_full : max_records ≤ count → {v : Verdict} → v ≡ verdict_of (refuse no_space 0) → v ≡ verdict_of (space_check len count)
    unfolding space_check check
    space_full k f = f ∙ rw (le-leb (record_size * (count + 1)) len (omega arith), le-ltb count max_records k)

    -- where a record is free and fewer than 4,096 are in use, the check passes
    pub space_free : count < max_records → verdict.Passed ≡ verdict_of (space_check len count)
    unfolding space_check check
    space_free k = rw (le-leb (record_size * (count + 1)) len (omega arith), lt-ltb count max_records k)
