-- What a refusal tells of the file and of the name table: a torn file is refused under every table,
-- and a file that is whole under another table by 24 or 25 alone.
use mathlib.Core.Path.{◌≡◌, refl, sym, subst}
use mathlib.Core.Logic.{◌⊎◌, inl, inr, ⊎_elim}
use mathlib.Core.List.{List, [], ◌∷◌}
use mathlib.Core.Option.{none}
use Prim.Native.Nat.{ℕ, ◌<◌}
use native.Mathlib.Omega.{arith}
use Rattle.basics.specs.Refusals.{refuse, bad_layout, bad_order, bad_name, bad_next}
use Rattle.naming.specs.Names.{Clues}
use Rattle.storage.specs.Store.{Element, Rule, records, sound_check, layout_rule, order_rule, parent_rule, name_rule, last_rule, next_rule}
use Rattle.storage.proofs.Sizes.{length_records}
use Rattle.storage.proofs.Rules.{Keeps, rank}
use Rattle.storage.proofs.Faults.{FirstFault, KeepsAt, sound_iff, sound_refused, rule_numbers, nineteen_iff, twenty_three_iff, twenty_four_iff}

-- the rules before that of the name say the same under every name table
same_keeps : (cl dl : Clues) (done : List Element) (ws : List ℕ) (r : Rule) → rank r < rank name_rule → Keeps dl done ws r → Keeps cl done ws r
same_keeps cl dl done ws layout_rule l k = k
same_keeps cl dl [] ws order_rule l k = k
same_keeps cl dl (previous ∷ done) ws order_rule l k = k
same_keeps cl dl [] ws parent_rule l k = k
same_keeps cl dl (previous ∷ done) ws parent_rule l k = k
same_keeps cl dl done ws name_rule l k = absurd (omega arith)
same_keeps cl dl done ws last_rule l k = absurd (omega arith)
same_keeps cl dl done ws next_rule l k = absurd (omega arith)

module _ (cl dl : Clues) (count : ℕ) (ws : List ℕ) (whole : sound_check dl count ws ≡ none) where
  -- in a store that is sound under a table, no record breaks a rule that says the same under another table
  kept : (i : ℕ) (r : Rule) → (KeepsAt dl [] (records count ws) i r → KeepsAt cl [] (records count ws) i r) →
      FirstFault cl [] (records count ws) i r → ⊥
  kept i r same h = h.breaks.fails (same ((sound_iff dl count ws).0 whole i (omega (arith, h.inside, length_records count ws)) r))

  -- in a store that is sound under a table, no record breaks a rule before that of the name
  kept_early : (i : ℕ) (r : Rule) → rank r < rank name_rule → FirstFault cl [] (records count ws) i r → ⊥
  kept_early i r early = kept i r (same_keeps cl dl _ _ r early)

  -- a store that is refused by 19 is sound under no name table: the file is torn
  pub torn_nineteen : (i : ℕ) → sound_check cl count ws ≡ refuse bad_layout i → ⊥
  torn_nineteen i e = kept_early i layout_rule (omega arith) ((nineteen_iff cl count ws i).0 e)

  -- a store that is refused by 23 is sound under no name table: the file is torn
  pub torn_twenty_three : (i : ℕ) → sound_check cl count ws ≡ refuse bad_order i → ⊥
  torn_twenty_three i e = ⊎_elim (kept_early i order_rule (omega arith)) (kept_early i parent_rule (omega arith)) ((twenty_three_iff cl count ws i).0 e)

  -- a store that is refused by 24 at record 0 is sound under no name table: the file is torn
  pub torn_root_name : sound_check cl count ws ≡ refuse bad_name 0 → ⊥
  torn_root_name e = kept 0 name_rule (λ k. k) ((twenty_four_iff cl count ws 0).0 e)

  -- a store that is sound under one name table is refused under another by 24 or 25 alone
  pub wrong_table : (n i : ℕ) → sound_check cl count ws ≡ refuse n i → (n ≡ bad_name) ⊎ (n ≡ bad_next)
  wrong_table n i e =
      let (r, h, is) = (sound_refused cl count ws n i).0 e in
      subst (λ n. (n ≡ bad_name) ⊎ (n ≡ bad_next)) is (rule_numbers Told (λ e. absurd (torn_nineteen i e)) (λ e. absurd (torn_twenty_three i e))
      (λ e. inl refl) (λ e. inr refl) r (subst (λ n. sound_check cl count ws ≡ refuse n i) (sym is) e))
    where
      Told : ℕ → Type 0
      Told n = sound_check cl count ws ≡ refuse n i → (n ≡ bad_name) ⊎ (n ≡ bad_next)
