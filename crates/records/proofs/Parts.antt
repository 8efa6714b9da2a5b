-- The parts of a record, where they stand in the slice.
use Prim.Native.Nat.{ℕ, ◌+◌, ◌-◌, ◌*◌, ◌<◌, ◌≤◌}
use mathlib.Core.Path.{◌≡◌, sym, ap, ap₂, ◌∙◌}
use mathlib.Core.List.{List}
use native.Mathlib.Omega.{arith}
use native.Mathlib.Nat.{add-zero}
use lib.ListN.{length, get_or, take, drop, length-drop}
use lib.Seq.{take-take, drop-drop, get_or-take, get_or-drop, length-take-le}
use Rattle.basics.specs.Limits.{record_size, max_depth, label_size}
use Rattle.labelling.specs.Labels.{label_of}
use Rattle.labelling.proofs.LabelWords.{label_of-take}
use Rattle.records.specs.Records.{record_at}

-- word i of record r stands i words behind the record's start
pub record_word : (ws : List ℕ) (r i : ℕ) → i < record_size → get_or (record_at r ws) i 0 ≡ get_or ws (r * record_size + i) 0
unfolding record_at
record_word ws r i h = get_or-take record_size (drop (r * record_size) ws) i 0 h ∙ get_or-drop (r * record_size) ws i 0

-- word 0 of record r, its depth, stands at the record's start
pub record_depth : (ws : List ℕ) (r : ℕ) → get_or (record_at r ws) 0 0 ≡ get_or ws (r * record_size) 0
record_depth ws r = record_word ws r 0 (omega arith) ∙ ap (λ i. get_or ws i 0) (add-zero (r * record_size))

module _ (ws : List ℕ) (r : ℕ) (low : get_or ws (r * record_size) 0 ≤ max_depth) where
  -- the part of a record behind its depth that is as long as the depth says
  abbrev part : List ℕ
  part = take (r * record_size + 1 + get_or ws (r * record_size) 0 - (r * record_size + 1)) (drop (r * record_size + 1) ws)

  -- the part behind the depth is as long as the depth says
  size : r * record_size + 1 + get_or ws (r * record_size) 0 - (r * record_size + 1) ≡ get_or ws (r * record_size) 0
  size = omega arith

  -- the part behind a record's depth is the components of its label
  pub record_label : part ≡ label_of (record_at r ws)
  unfolding record_at label_of
  record_label =
      let rest : List ℕ = drop (r * record_size) ws in
      let first : get_or rest 0 0 ≡ get_or ws (r * record_size) 0 = get_or-drop (r * record_size) ws 0 0 ∙ ap (λ i. get_or ws i 0) (add-zero (r * record_size)) in
      let shallow : get_or rest 0 0 ≤ max_depth = omega arith in
      ap₂ take (size ∙ sym first) (sym (drop-drop 1 (r * record_size) ws)) ∙ sym (label_of-take rest shallow) ∙
      ap label_of (sym (take-take label_size record_size rest (omega arith))) ∙ label_of-take (record_at r ws) (omega (arith, record_depth ws r))

  -- the part behind a record's depth has as many components as the depth says
  pub record_long : r * record_size + record_size ≤ length ws → length part ≡ get_or ws (r * record_size) 0
  record_long room = rw size (length-take-le (get_or ws (r * record_size) 0) (drop (r * record_size + 1) ws) (omega (arith, length-drop (r * record_size + 1) ws)))
