-- Sizes of slices and counts, and how many elements are read.
use mathlib.Core.Path.{◌≡◌, refl, ap, ◌∙◌}
use mathlib.Core.Logic.Iff
use mathlib.Core.Logic.{◌↔◌}
use mathlib.Core.Bool.{Bool, ◌&&◌}
use mathlib.Core.List.{List}
use mathlib.Core.Option.{none}
use Prim.Native.Nat.{zero, suc, ℕ, ◌%◌, ◌*◌, ◌<◌, ◌≤◌}
use lib.ListN.{drop, length, length-map}
use lib.Dec.{T, ltb, leb, eqb, leb→le, ltb→lt, lt→ltb, le→leb}
use Rattle.basics.specs.Limits.{record_size, max_records}
use Rattle.basics.specs.Refusals.{store_size}
use Rattle.storage.specs.Store.{read_element, elements, is_slice, size_check, records}
use Rattle.basics.proofs.Tests.{eqb_alike, and_facts}
use Rattle.basics.proofs.Refusals.{check_iff}

-- a slice's length is accepted for a new store exactly if it is a multiple of 20, not 0
pub slice_iff : (len : ℕ) → T (is_slice len) ↔ ((len % record_size ≡ 0) × (0 < len))
unfolding is_slice
slice_iff len = and_facts (eqb (len % record_size) 0) (ltb 0 len) (eqb_alike (len % record_size) 0) (ltb→lt 0 len, lt→ltb 0 len)

-- the facts of refusal 18 that an accepted slice and count have
pub record Sized (len count : ℕ) : Type 0 where
  pub whole : len % record_size ≡ 0
  pub positive : 0 < len
  pub used : 0 < count
  pub held : record_size * count ≤ len
  pub few : count ≤ max_records

-- a slice's length and a count are accepted exactly if the facts of refusal 18 hold
pub size_iff : (len count : ℕ) → size_check len count ≡ none ↔ Sized len count
unfolding size_check
size_iff len count =
    let used : Bool = is_slice len && ltb 0 count in
    let held : Bool = leb (record_size * count) len in
    let few : Bool = leb count max_records in
    Iff.trans (check_iff (used && held && few) store_size 0 (and_facts (used && held) few
    (and_facts used held (and_facts (is_slice len) (ltb 0 count) (slice_iff len) (ltb→lt 0 count, lt→ltb 0 count))
    (leb→le (record_size * count) len, le→leb (record_size * count) len)) (leb→le count max_records, le→leb count max_records))) (
      λ h. record { whole = h.0.0.0.0; positive = h.0.0.0.1; used = h.0.0.1; held = h.0.1; few = h.1 },
      λ s. ((((s.whole, s.positive), s.used), s.held), s.few),
    )

-- as many records are read from a slice as are asked for
pub length_records : (count : ℕ) (ws : List ℕ) → length (records count ws) ≡ count
unfolding records
length_records zero ws = refl
length_records (suc n) ws = ap suc (length_records n (drop record_size ws))

-- as many elements are read from a slice as are asked for
pub length_elements_read : (count : ℕ) (ws : List ℕ) → length (elements count ws) ≡ count
unfolding elements
length_elements_read count ws = length-map (records count ws) read_element ∙ length_records count ws
