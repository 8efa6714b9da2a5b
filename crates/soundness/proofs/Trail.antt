-- The parent of a record, known from the previous record.
-- Labels ascend, so a parent that stands earlier is an ancestor of the previous record, or that record.
use Prim.Native.Nat.{ℕ, zero, suc, ◌+◌, ◌-◌, ◌<◌, ◌≤◌}
use mathlib.Core.Path.{◌≡◌, refl, sym, ap, subst, ◌∙◌}
use mathlib.Core.Logic.{◌⊎◌, inl, inr, ⊎_elim, ⊎_map, by_cases}
use mathlib.Core.List.{List, [], ◌∷◌}
use mathlib.Core.Option.{Option, none, some}
use native.Mathlib.Decide.{dec_lt}
use native.Mathlib.Omega.{arith}
use lib.ListN.{length, get_or, take}
use lib.Seq.{length-take-le}
use lib.Dec.{T}
use Rattle.basics.specs.Basics.{◌∈◌, last}
use Rattle.labelling.specs.Labels.{Label, before, shared, within, above}
use Rattle.storage.specs.Store.{Element, read_element, find}
use Rattle.basics.proofs.Tests.{decide}
use Rattle.labelling.proofs.LabelOrder.{before_one_way, before_nonroot, above_last, extend_before, within_iff, within_self}
use Rattle.labelling.proofs.Kinship.{shared_alike, shared_most}
use Rattle.storage.proofs.Finding.{find_mem}
use Rattle.label_order.proofs.Order.{order_none}
use Rattle.records.specs.Records.{record_at}

-- the elements of the first r records, the last one first
unfoldable pub behind : ℕ → List ℕ → List Element
behind zero ws = []
behind (suc r) ws = read_element (record_at r ws) ∷ behind r ws

-- a label m, and a label l before it
module _ (l m : Label) (t : T (before l m)) where
  -- a label shares less than its length with a label before it
  later_shares : shared l m < length m
  later_shares = by_cases (dec_lt (shared l m) (length m)) (λ k. k) (λ k. absurd (subst T (sym (order_none l m refl (omega arith))) t))

  -- the label of the parent begins the label
  above_within : T (within (above m) m)
  above_within = (within_iff (above m) m).1 (last m ∷ [], above_last m (before_nonroot l m t))

  -- the label of the parent is one component shorter
  above_length : length (above m) + 1 ≡ length m
  unfolding above
  above_length = omega (arith, length-take-le (length m - 1) m (omega arith), before_nonroot l m t)

  -- where the parent's label begins the earlier label too, the two share all but one component of the later
  above_shared : T (within (above m) l) → shared l m + 1 ≡ length m
  above_shared w = omega (arith, shared_most (above m) l m w above_within, later_shares, above_length)

  -- where the parent's label is the earlier one or before it, the two share all but one component of the later
  parent_earlier : (above m ≡ l) ⊎ T (before (above m) l) → shared l m + 1 ≡ length m
  parent_earlier (inl e) = above_shared (subst (λ l. T (within (above m) l)) e (within_self (above m)))
  parent_earlier (inr b) = ⊎_elim above_shared (λ n. absurd (turned n)) (decide (within (above m) l))
    where
      turned : (T (within (above m) l) → ⊥) → ⊥
      turned n = before_one_way.asym l m t
          (subst (λ m. T (before m l)) (sym (above_last m (before_nonroot l m t))) (extend_before (above m) l (last m ∷ []) b n))

  -- where the two share all but one component of the later, the parent's label is what they share
  pub parent_shared : shared l m + 1 ≡ length m → above m ≡ take (shared l m) l
  unfolding above
  parent_shared e =
      let s : length m - 1 ≡ shared l m = omega arith in
      ap (λ n. take n m) s ∙ sym (shared_alike l m)

  -- where the two share fewer components, no element up to the earlier one is the parent
  pub find_none : (shared l m + 1 ≡ length m → ⊥) → (done : List Element) → ((e : Element) → e ∈ done → (e.label ≡ l) ⊎ T (before e.label l)) →
      find (above m) done ≡ none
  find_none n done latest = go (find (above m) done) refl
    where
      go : (o : Option Element) → find (above m) done ≡ o → o ≡ none
      go none e = refl
      go (some p) e =
          let (stands, is) = find_mem (above m) done p e in
          absurd (n (parent_earlier (⊎_map (λ (k : p.label ≡ l). sym is ∙ k) (λ k. subst (λ p. T (before p l)) is k) (latest p stands))))

-- what is known after record r: the record of each ancestor of its
-- label and of itself, and that no label so far comes after it
pub record Lineage (ws : List ℕ) (r : ℕ) (parents : List ℕ) : Type 0 where
  pub line : (j : ℕ) → j ≤ length (read_element (record_at r ws)).label →
      find (take j (read_element (record_at r ws)).label) (behind (suc r) ws) ≡ some (read_element (record_at (get_or parents (suc j) 0) ws))
  pub latest : (e : Element) → e ∈ behind (suc r) ws →
      (e.label ≡ (read_element (record_at r ws)).label) ⊎ T (before e.label (read_element (record_at r ws)).label)

-- what is known before record r: what is known after the previous record
abbrev pub Trail : List ℕ → ℕ → List ℕ → Type 0
Trail ws zero parents = Unit {0}
Trail ws (suc r) parents = Lineage ws r parents
