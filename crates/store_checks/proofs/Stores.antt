-- The checks of table, sizes and records that a call makes before its own:
-- one that refuses refuses the call, else the call's own decide.
use Prim.Native.Nat.{ℕ, ◌*◌, ◌≤◌}
use mathlib.Core.Path.{◌≡◌, ◌∙◌}
use mathlib.Core.List.{List, [], ◌∷◌}
use mathlib.Core.Option.{Option, none, some, none-ne-some}
use lib.ListN.{length}
use Rattle.basics.specs.Limits.{record_size}
use Rattle.basics.specs.Refusals.{Refusal, first}
use Rattle.naming.specs.Names.{Table, clues_of, table_check}
use Rattle.storage.specs.Store.{size_check, sound_check}
use Rattle.basics.proofs.Refusals.{first_none, first_rest}
use Rattle.storage.proofs.Sizes.{size_iff}
use Rattle.store_checks.specs.Stores.{store_check}

-- where three checks refuse, they refuse the same with more checks behind them
first_more : (a b c : Option Refusal) (cs : List (Option Refusal)) (r : Refusal) → first (a ∷ b ∷ c ∷ []) ≡ some r → first (a ∷ b ∷ c ∷ cs) ≡ some r
unfolding first
first_more none none none cs r e = absurd (none-ne-some r e)
first_more none none (some x) cs r e = e
first_more none (some x) c cs r e = e
first_more (some x) b c cs r e = e

module _ (rows : Table) (ws : List ℕ) (count : ℕ) where
  -- where the check of the store refuses, the call has that refusal
  pub store_refused : (cs : List (Option Refusal)) (r : Refusal) → store_check rows ws count ≡ some r →
      first (table_check rows ∷ size_check (length ws) count ∷ sound_check (clues_of rows) count ws ∷ cs) ≡ some r
  unfolding store_check
  store_refused cs r e = first_more (table_check rows) (size_check (length ws) count) (sound_check (clues_of rows) count ws) cs r e

  module _ (passed : store_check rows ws count ≡ none) where
    -- table, sizes and records of a store that passes all pass
    store_checks_hold : (table_check rows ≡ none) × (size_check (length ws) count ≡ none) × (sound_check (clues_of rows) count ws ≡ none)
    unfolding store_check
    store_checks_hold =
        let (table, e) = first_none _ _ passed in
        let (size, f) = first_none _ _ e in
        (table, size, (first_none _ [] f).0)

    -- where the store passes, the call's own checks decide
    pub store_passed : (cs : List (Option Refusal)) → first (table_check rows ∷ size_check (length ws) count ∷ sound_check (clues_of rows) count ws ∷ cs) ≡ first cs
    store_passed cs = let (table, size, sound) = store_checks_hold in first_rest _ _ table ∙ first_rest _ _ size ∙ first_rest _ _ sound

    -- the records of a store that passes are sound
    pub store_sound : sound_check (clues_of rows) count ws ≡ none
    store_sound = store_checks_hold.2

    -- the records of a store that passes stand in the slice
    pub store_room : record_size * count ≤ length ws
    store_room = ((size_iff (length ws) count).0 store_checks_hold.1).held
