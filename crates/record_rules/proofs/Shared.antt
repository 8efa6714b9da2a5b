-- What a record shares with the previous one, as its two labels tell it.
use Prim.Native.Nat.{ℕ, suc, ◌+◌, ◌-◌}
use mathlib.Core.Path.{◌≡◌, refl, sym, ap, ◌∙◌}
use mathlib.Core.List.{List}
use native.Mathlib.Omega.{arith}
use Rattle.labelling.specs.Labels.{Label, label_of, shared}
use Rattle.records.specs.Records.{record_at}
use Rattle.record_rules.specs.Rules.{shared_before}

module _ (ws : List ℕ) (r : ℕ) where
  -- record 0 shares nothing with a previous one
  pub shares_root : r ≡ 0 → 0 ≡ shared_before ws r
  unfolding shared_before
  shares_root e = rw e refl

  module _ (n : r ≡ 0 → ⊥) where
    -- a later record shares what its label shares with the label of the previous one
    shares_labels : shared (label_of (record_at (r - 1) ws)) (label_of (record_at r ws)) ≡ shared_before ws r
    unfolding shared_before
    shares_labels =
        let whole : suc (r - 1) ≡ r = omega arith in
        ap (λ k. shared (label_of (record_at (r - 1) ws)) (label_of (record_at k ws))) (sym whole) ∙ ap (shared_before ws) whole

    -- the number of components that a later record shares, read from the two labels
    pub shares_child : {l m : Label} {s : ℕ} → l ≡ label_of (record_at (r - 1) ws) → m ≡ label_of (record_at r ws) → s ≡ shared l m → s ≡ shared_before ws r
    shares_child p q is = is ∙ rw (p, q) shares_labels

    -- the number of components that a later record shares, by the number of the previous record
    pub shares_behind : {s : ℕ} → s ≡ shared_before ws r → s ≡ shared (label_of (record_at (r - 1) ws)) (label_of (record_at (r - 1 + 1) ws))
    shares_behind is =
        let at : r - 1 + 1 ≡ r = omega arith in
        is ∙ sym shares_labels ∙ ap (λ k. shared (label_of (record_at (r - 1) ws)) (label_of (record_at k ws))) (sym at)
