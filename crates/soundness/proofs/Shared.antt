-- The words that a record shares with the previous one: they need no test, since the previous one's were tested.
use Prim.Native.Nat.{ℕ, zero, suc, ◌+◌, ◌*◌, ◌<◌, ◌≤◌}
use mathlib.Core.Path.{◌≡◌, refl, sym, ap, ◌∙◌}
use mathlib.Core.List.{List}
use native.Mathlib.Nat.{add-zero}
use native.Mathlib.Omega.{arith}
use lib.ListN.{length, get_or, drop}
use lib.Seq.{get_or-take, get_or-drop}
use borrow.Author.Tests.{le-leb}
use Rattle.basics.specs.Limits.{max_component, max_depth, record_size}
use Rattle.labelling.specs.Labels.{label_of, shared}
use Rattle.labelling.proofs.Kinship.{shared_alike, shared_low, shared_comm}
use Rattle.records.specs.Records.{record_at}
use Rattle.records.proofs.Parts.{record_word, record_depth, record_label, record_long}
use Rattle.label_words.proofs.Words.{word_used}
use Rattle.record_rules.specs.Rules.{Laid, shared_before}
use Rattle.record_rules.proofs.Depths.{fitting_depth}
use Rattle.record_rules.proofs.Shared.{shares_root}
use Rattle.soundness.proofs.Fits.{Fitting, laid_small}

-- component j of record r is word j + 1 of the record
component_word : (ws : List ℕ) (r j : ℕ) → j < get_or ws (r * record_size) 0 → get_or ws (r * record_size) 0 ≤ max_depth →
    get_or (label_of (record_at r ws)) j 0 ≡ get_or ws (r * record_size + suc j) 0
unfolding label_of
component_word ws r j low deep =
    let behind : 1 + j ≡ suc j = omega arith in
    get_or-take (get_or (record_at r ws) 0 0) (drop 1 (record_at r ws)) j 0 (omega (arith, record_depth ws r)) ∙ get_or-drop 1 (record_at r ws) j 0 ∙
    record_word ws r (1 + j) (omega arith) ∙ ap (λ i. get_or ws (r * record_size + i) 0) behind

-- a record has as many components as its depth says
pub component_count : (ws : List ℕ) (r : ℕ) → get_or ws (r * record_size) 0 ≤ max_depth → r * record_size + record_size ≤ length ws →
    length (label_of (record_at r ws)) ≡ get_or ws (r * record_size) 0
component_count ws r deep room = ap length (sym (record_label ws r deep)) ∙ record_long ws r deep room

-- the words of a slice that holds records of a depth of at most 15
module _ (ws : List ℕ) where
  -- what a record shares with the previous one is no longer than its label
  shares_few : (r : ℕ) → get_or ws (r * record_size) 0 ≤ max_depth → r * record_size + record_size ≤ length ws → shared_before ws r ≤ get_or ws (r * record_size) 0
  unfolding shared_before
  shares_few zero deep room = omega arith
  shares_few (suc r) deep room =
      let l = label_of (record_at r ws) in
      let m = label_of (record_at (suc r) ws) in
      omega (arith, shared_comm l m, shared_low m l, component_count ws (suc r) deep room)

  -- behind the components that a record shares with the previous one comes a word with a number below 17
  pub shares_small : (r count : ℕ) {s : ℕ} → s ≡ shared_before ws r → get_or ws (r * record_size) 0 ≤ max_depth → r < count → count * record_size ≤ length ws → s + 1 < 17
  shares_small r count is deep inside room = omega (arith, shares_few r deep (omega arith))

  -- a component that a record shares with the previous one is the same word in both
  shared_word : (r : ℕ) → get_or ws (r * record_size) 0 ≤ max_depth → get_or ws (suc r * record_size) 0 ≤ max_depth → suc r * record_size + record_size ≤ length ws →
      (j : ℕ) → j < shared_before ws (suc r) → (j < get_or ws (r * record_size) 0) × (get_or ws (suc r * record_size + suc j) 0 ≡ get_or ws (r * record_size + suc j) 0)
  unfolding shared_before
  shared_word r high deep room j low =
      let l = label_of (record_at r ws) in
      let m = label_of (record_at (suc r) ws) in
      let on_l : j < get_or ws (r * record_size) 0 = omega (arith, shared_low l m, component_count ws r high (omega arith)) in
      let on_m : j < get_or ws (suc r * record_size) 0 = omega (arith, shared_comm l m, shared_low m l, component_count ws (suc r) deep room) in (
        on_l,
        sym (component_word ws (suc r) j on_m deep) ∙ sym (get_or-take (shared l m) m j 0 low) ∙ ap (λ k. get_or k j 0) (sym (shared_alike l m)) ∙
            get_or-take (shared l m) l j 0 low ∙ component_word ws r j on_l high,
      )

  -- the components that record r shares fit, since the records before it are laid out as they must be
  pub shares_fit : (r : ℕ) {s : ℕ} → s ≡ shared_before ws r → ((q : ℕ) → q < r → Laid ws q) →
      get_or ws (r * record_size) 0 ≤ max_depth → r * record_size + record_size ≤ length ws → Fitting ws r (s + 1)
  shares_fit r {s} is laid deep room = record { fit = λ i h. sym (word_used _ i _ (omega (arith, shares_few r deep room))) ∙ le-leb _ max_component (small r is laid deep room i (omega arith)) }
    where
      small : (r : ℕ) {s : ℕ} → s ≡ shared_before ws r → ((q : ℕ) → q < r → Laid ws q) →
          get_or ws (r * record_size) 0 ≤ max_depth → r * record_size + record_size ≤ length ws → (i : ℕ) → i ≤ s → get_or ws (r * record_size + i) 0 ≤ max_component
      small r is laid deep room zero h = omega (arith, ap (λ k. get_or ws k 0) (add-zero (r * record_size)))
      small zero is laid deep room (suc j) h = absurd (omega (arith, shares_root ws zero refl))
      small (suc r) is laid deep room (suc j) h =
          let (fits, tidy) = laid r (omega arith) in
          let high = fitting_depth r _ fits in
          let (low, alike) = shared_word r high deep room j (omega arith) in
          omega (arith, alike, laid_small ws r (omega arith) tidy (suc j) (omega arith) high)
