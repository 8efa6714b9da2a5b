-- The elements in use, by the number of their record.
use Prim.Native.Nat.{ℕ, zero, suc, ◌+◌, ◌*◌, ◌<◌}
use mathlib.Core.Path.{◌≡◌, refl, ap, ◌∙◌}
use mathlib.Core.List.{List}
use native.Mathlib.Omega.{arith}
use lib.ListN.{get_or, take, drop}
use lib.Seq.{drop-drop}
use Rattle.basics.specs.Limits.{record_size}
use Rattle.storage.specs.Store.{Element, read_element, records, elements}
use Rattle.records.specs.Records.{record_at}

-- record r of what stands behind record 0 is record r + 1
pub record_behind : (r : ℕ) (ws : List ℕ) → record_at r (drop record_size ws) ≡ record_at (suc r) ws
unfolding record_at
record_behind r ws =
    let e : record_size + r * record_size ≡ suc r * record_size = omega arith in
    ap (take record_size) (drop-drop (r * record_size) record_size ws ∙ ap (λ n. drop n ws) e)

-- the first twenty words are record 0
pub record_first : (ws : List ℕ) → take record_size ws ≡ record_at 0 ws
unfolding record_at
record_first ws = refl

-- element r is what record r reads as
pub element_at_lem : (count : ℕ) (ws : List ℕ) (r : ℕ) (d : Element) → r < count → get_or (elements count ws) r d ≡ read_element (record_at r ws)
unfolding elements records
element_at_lem zero ws r d h = absurd (omega arith)
element_at_lem (suc count) ws zero d h = ap read_element (record_first ws)
element_at_lem (suc count) ws (suc r) d h = element_at_lem count (drop record_size ws) r d (omega arith) ∙ ap read_element (record_behind r ws)
