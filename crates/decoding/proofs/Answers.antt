-- What decoding answers, for each way out of its code.
use Prim.Native.Nat.{ℕ, ◌≤◌, ◌<◌}
use mathlib.Core.Path.{◌≡◌, refl, sym, ap, ◌∙◌}
use mathlib.Core.Bool.{Bool, true, false, not}
use mathlib.Core.List.{List, [], ◌∷◌}
use mathlib.Core.Option.{none, some}
use native.Mathlib.Omega.{arith}
use lib.ListN.{replicate}
use lib.Dec.{leb→le, le→leb}
use Rattle.basics.specs.Basics.{elim?}
use Rattle.basics.specs.Limits.{max_name, label_size}
use Rattle.basics.specs.Refusals.{Refusal as Refused, refuse, check, first, bad_root, not_label}
use Rattle.naming.specs.Names.{Table, clues_of, table_check, is_name, root_check}
use Rattle.labelling.specs.Labels as spec
use Rattle.basics.proofs.Refusals.{check_passed, check_failed, first_here, first_rest, first_last}
use Rattle.labels.proofs.Steps.{known_label, unknown_label}
use Rattle.refusals.specs.declared.Refusal.{Refusal}
use Rattle.refusals.specs.declared.Verdict.{Verdict}
use Rattle.refusals.specs.declared.Verdict.TheVariants as verdict
use Rattle.refusals.specs.Answers.{verdict_of}
use Rattle.refusals.proofs.Verdicts.{passed_none, refused_some}
use Rattle.decoding.specs.declared.Decoding.{Decoding}
use Rattle.decoding.specs.Answers.{decoding_of, decoding_refused, decoded_by}

module _ (rows : Table) (root : ℕ) (ws : List ℕ) where
  -- a call that is refused answers the refusal, and no names
  refused_by_lem : (x : Refused) → spec.decode_refusal rows root ws ≡ some x → decoding_refused (verdict_of (some x)) ≡ decoding_of (spec.decode_call rows root ws)
  unfolding spec.decode_call elim?
  refused_by_lem x e = rw e

  -- where no check before the path's refuses, the path decides what the call answers
  path_decides : spec.decode_refusal rows root ws ≡ spec.path_check (spec.decode (clues_of rows) root (spec.label_of ws)) →
      decoded_by (spec.decode (clues_of rows) root (spec.label_of ws)) ≡ decoding_of (spec.decode_call rows root ws)
  unfolding spec.decode_call spec.path_check spec.names_in elim?
  path_decides e = rw e (by_path (spec.decode (clues_of rows) root (spec.label_of ws)))
    where
      by_path : (d : spec.Decoded) → decoded_by d ≡
          decoding_of (elim? (spec.path_check d) (record { refusal = none; names = spec.names_in d }) (λ r. record { refusal = some r; names = replicate label_size 0 }))
      by_path (spec.path ns) = refl
      by_path (spec.stuck i) = refl

  module _ {v : Verdict} (checked : v ≡ verdict_of (table_check rows)) where
    -- the refusal of a table is the call's
    pub bad_table_lem : {x : Refusal} {r : Decoding} → v ≡ verdict.Refused x → r ≡ decoding_refused (verdict.Refused x) → r ≡ decoding_of (spec.decode_call rows root ws)
    unfolding spec.decode_refusal
    bad_table_lem f e =
        let (x, is) = refused_some (table_check rows) checked f in
        e ∙ ap decoding_refused (sym f ∙ checked ∙ ap verdict_of is) ∙ refused_by_lem x (first_here x _ _ is)

    module _ (good : v ≡ verdict.Passed) where
      -- a root name above 63 is refused by 21
      pub high_root : {u : Verdict} {r : Decoding} → max_name < root → u ≡ verdict_of (refuse bad_root 0) → r ≡ decoding_refused u → r ≡ decoding_of (spec.decode_call rows root ws)
      unfolding spec.decode_refusal table_check root_check is_name
      high_root h f e =
          e ∙ ap decoding_refused f ∙ refused_by_lem _ (first_rest _ _ (passed_none (table_check rows) checked good) ∙
          first_here _ _ _ (check_failed (is_name root) bad_root 0 (λ t. omega (arith, leb→le root max_name t))))

      module _ (low : root ≤ max_name) {b : Bool} (is : b ≡ spec.is_label ws) where
        -- where the table and the root name pass, the label and the path decide
        to_label : spec.decode_refusal rows root ws ≡ first (spec.label_check ws ∷ spec.path_check (spec.decode (clues_of rows) root (spec.label_of ws)) ∷ [])
        unfolding spec.decode_refusal table_check root_check is_name
        to_label =
            first_rest _ _ (passed_none (table_check rows) checked good) ∙ first_rest _ _ (check_passed (is_name root) bad_root 0 (le→leb root max_name low))

        -- words that are no label are refused by 15
        pub no_label : {u : Verdict} {r : Decoding} → not b ≡ true → u ≡ verdict_of (refuse not_label 0) → r ≡ decoding_refused u → r ≡ decoding_of (spec.decode_call rows root ws)
        unfolding spec.label_check check
        no_label f g e = e ∙ ap decoding_refused g ∙ refused_by_lem _ (to_label ∙ first_here _ _ _ (ap (λ b. check b not_label 0) (unknown_label ws is f)))

        -- where the words are a label, the call answers what it decodes to
        pub label_decoded : {l : List ℕ} {r : Decoding} → not b ≡ false → l ≡ spec.label_of ws → r ≡ decoded_by (spec.decode (clues_of rows) root l) →
            r ≡ decoding_of (spec.decode_call rows root ws)
        unfolding spec.label_check check
        label_decoded f p e =
            e ∙ ap (λ l. decoded_by (spec.decode (clues_of rows) root l)) p ∙
            path_decides (to_label ∙ first_rest _ _ (ap (λ b. check b not_label 0) (known_label ws is f)) ∙ first_last _)
