-- An element placed among others, and the room that it needs.
use mathlib.Core.Path.{◌≡◌, refl, ap}
use mathlib.Core.Logic.{◌↔◌}
use mathlib.Core.Bool.{Bool, true, false, cond, ◌||◌}
use mathlib.Core.List.{[], ◌∷◌, List}
use mathlib.Core.Option.{none}
use Prim.Native.Nat.{suc, ℕ, ◌*◌, ◌<◌, ◌≤◌, ◌+◌}
use lib.ListN.{length}
use lib.Dec.{ltb, leb, leb→le, ltb→lt, lt→ltb, le→leb}
use Rattle.basics.specs.Basics.{◌∈◌}
use Rattle.basics.specs.Limits.{record_size, max_records}
use Rattle.basics.specs.Refusals.{no_space}
use Rattle.labelling.specs.Labels.{Label, within, before}
use Rattle.storage.specs.Store.{Element}
use Rattle.store_calls.specs.Updates.{placed, space_check}
use Rattle.basics.proofs.Tests.{and_facts}
use Rattle.basics.proofs.Lists.{for_cons, here, there}
use Rattle.basics.proofs.Refusals.{check_iff}

-- a record is free exactly if one more fits the slice and fewer than 4,096 are in use
pub space_iff : (len count : ℕ) → space_check len count ≡ none ↔ ((record_size * (count + 1) ≤ len) × (count < max_records))
unfolding space_check
space_iff len count =
    check_iff _ no_space 0 (and_facts (leb (record_size * (count + 1)) len) (ltb count max_records)
    (leb→le (record_size * (count + 1)) len, le→leb (record_size * (count + 1)) len) (ltb→lt count max_records, lt→ltb count max_records))

-- placing adds one element
pub length_placed : (l : Label) (new : Element) (es : List Element) → length (placed l new es) ≡ suc (length es)
unfolding placed
length_placed l new [] = refl
length_placed l new (e ∷ es) = go (within l e.label || before e.label l) (length_placed l new es)
  where
    go : (c : Bool) → length (placed l new es) ≡ suc (length es) → length (cond c (e ∷ placed l new es) (new ∷ e ∷ es)) ≡ suc (suc (length es))
    go true below = ap suc below
    go false below = refl

-- what holds of the new element and of the others holds of all after placing
pub placed_only : (l : Label) (new : Element) (es : List Element) (P : Element → Type 0) → P new → ((e : Element) → e ∈ es → P e) →
    (e : Element) → e ∈ placed l new es → P e
unfolding placed
placed_only l new [] P p q = for_cons P p q
placed_only l new (x ∷ es) P p q = go (within l x.label || before x.label l) (placed_only l new es P p (λ e m. q e (there m)))
  where
    go : (c : Bool) → ((e : Element) → e ∈ placed l new es → P e) → (e : Element) → e ∈ cond c (x ∷ placed l new es) (new ∷ x ∷ es) → P e
    go true below = for_cons P (q x (here refl)) below
    go false below = for_cons P p q
