-- What the calls on labels alone answer, and the facts of their refusals.
use mathlib.Core.Path.{◌≡◌, refl, sym, ap, ◌∙◌}
use mathlib.Core.Logic.{◌↔◌}
use mathlib.Core.Bool.{Bool, true, false}
use mathlib.Core.List.{List, [], ◌∷◌}
use mathlib.Core.Option.{none, Option, some, none-ne-some, some-ne-none, some-injective}
use Prim.Native.Nat.{ℕ, zero, suc, ◌≤◌}
use native.Mathlib.Omega.{arith}
use lib.ListN.{replicate}
use lib.Dec.{T, le→leb}
use Rattle.basics.specs.Basics.{elim?}
use Rattle.basics.specs.Limits.{max_name, label_size}
use Rattle.basics.specs.Refusals.{check, first, not_label, value, refused, reply, bad_root, refuse, empty_clue, Refusal}
use Rattle.naming.specs.Names.{Table, Clues, root_check, is_name, table_check, clues_of}
use Rattle.labelling.specs.Labels.{kinship, follows, label_of, is_label, label_check, kinship_call, follows_call, decode_call, decode_refusal, path_check, Label, Decoded, decode, path, label_words, names_in, stuck}
use Rattle.basics.proofs.Refusals.{check_passed, check_iff}
use Rattle.labelling.proofs.LabelWords.{GoodLabel, IsLabel, is_label_iff, label_of-label_words, label_words_good}
use Rattle.labelling.proofs.Decode.{Starts, starts, stuck_path, BelowEmpty, stuck_iff}

module _ {A : Type 0} (a b : List ℕ) (x : A) where
  -- a call on two labels answers its value
  labels_call : T (is_label a) → T (is_label b) → reply (first (label_check a ∷ label_check b ∷ [])) x ≡ value x
  unfolding label_check check first reply
  labels_call = go (is_label a) (is_label b)
    where
      go : (p q : Bool) → T p → T q → reply (first (check p not_label 0 ∷ check q not_label 0 ∷ [])) x ≡ value x
      go true true h k = refl
      go true false h k = absurd k
      go false q h k = absurd h

  -- a call on words of which one or both are no label is refused by 15
  labels_refused : ((T (is_label a) × T (is_label b)) → ⊥) →
      reply (first (label_check a ∷ label_check b ∷ [])) x ≡ refused (record { number = not_label; place = 0 })
  unfolding label_check check first reply
  labels_refused = go (is_label a) (is_label b)
    where
      go : (p q : Bool) → ((T p × T q) → ⊥) →
          reply (first (check p not_label 0 ∷ check q not_label 0 ∷ [])) x ≡ refused (record { number = not_label; place = 0 })
      go true true n = absurd (n (tt, tt))
      go true false n = refl
      go false q n = refl

module _ (a b : List ℕ) where
  -- kinship of two labels in words is answered
  pub kinship_call_lem : T (is_label a) → T (is_label b) → kinship_call a b ≡ value (kinship (label_of a) (label_of b))
  unfolding kinship_call
  kinship_call_lem = labels_call a b (kinship (label_of a) (label_of b))

  -- kinship of words of which one or both are no label is refused by 15
  pub kinship_refused : ((T (is_label a) × T (is_label b)) → ⊥) → kinship_call a b ≡ refused (record { number = not_label; place = 0 })
  unfolding kinship_call
  kinship_refused = labels_refused a b (kinship (label_of a) (label_of b))

  -- whether one of two labels in words follows the other is answered
  pub follows_call_lem : T (is_label a) → T (is_label b) → follows_call a b ≡ value (follows (label_of a) (label_of b))
  unfolding follows_call
  follows_call_lem = labels_call a b (follows (label_of a) (label_of b))

  -- whether words follow others, of which one or both are no label, is refused by 15
  pub follows_refused : ((T (is_label a) × T (is_label b)) → ⊥) → follows_call a b ≡ refused (record { number = not_label; place = 0 })
  unfolding follows_call
  follows_refused = labels_refused a b (follows (label_of a) (label_of b))

module _ (rows : Table) (root : ℕ) (l : Label) (table : table_check rows ≡ none) (small : root ≤ max_name) (good : GoodLabel l) where
  -- whether decoding a good label is refused hangs on what the label decodes to
  decode_refusal_lem : decode_refusal rows root (label_words l) ≡ path_check (decode (clues_of rows) root l)
  unfolding decode_refusal root_check is_name label_check
  decode_refusal_lem =
      rw (
        label_of-label_words l,
        table,
        check_passed (is_name root) bad_root 0 (le→leb root max_name small),
        check_passed (is_label (label_words l)) not_label 0 (label_words_good l good),
      )
      (only (path_check (decode (clues_of rows) root l)))
    where
      only : (o : Option Refusal) → first (none ∷ none ∷ none ∷ o ∷ []) ≡ o
      only none = unfold first in refl
      only (some r) = unfold first in refl

  -- decoding a good label that has a path answers the path
  pub decode_call_lem : (ns : List ℕ) → decode (clues_of rows) root l ≡ path ns →
      decode_call rows root (label_words l) ≡ record { refusal = none; names = names_in (path ns) }
  unfolding decode_call path_check elim?
  decode_call_lem ns e = rw (decode_refusal_lem, label_of-label_words l, e)

  -- decoding a label that is stuck is refused by 16 at the component
  pub decode_stuck : (i : ℕ) → decode (clues_of rows) root l ≡ stuck i →
      decode_call rows root (label_words l) ≡ record { refusal = refuse empty_clue i; names = replicate label_size 0 }
  unfolding decode_call path_check elim?
  decode_stuck i e = rw (decode_refusal_lem, label_of-label_words l, e)

-- words are accepted as a label exactly if the facts of refusal 15 hold
pub label_check_iff : (ws : List ℕ) → label_check ws ≡ none ↔ IsLabel ws
unfolding label_check
label_check_iff ws = check_iff (is_label ws) not_label 0 (is_label_iff ws)

module _ (cl : Clues) (root : ℕ) (l : Label) where
  -- a label is accepted for decoding exactly if no component stands below a name with an empty clue
  pub path_check_iff : path_check (decode cl root l) ≡ none ↔ ((j : ℕ) → BelowEmpty cl root l j → ⊥)
  path_check_iff = go (decode cl root l) (starts cl root l) (stuck_iff cl root l)
    where
      go : (d : Decoded) → Starts root l d → ((j : ℕ) → d ≡ stuck (suc j) ↔ BelowEmpty cl root l j) →
          path_check d ≡ none ↔ ((j : ℕ) → BelowEmpty cl root l j → ⊥)
      go (path ns) s e = unfold path_check in (λ h j b. stuck_path (sym ((e j).1 b)), λ h. refl)
      go (stuck zero) s e = absurd (omega (arith, (s.stops 0 refl).0))
      go (stuck (suc j)) s e = unfold path_check in (λ h. absurd (some-ne-none _ h), λ h. absurd (h j ((e j).0 refl)))

  -- A label is refused for decoding by 16 and by no other number,
  -- at the first component, counted from 1, that stands below a name with an empty clue.
  pub path_check_refused : (r : Refusal) →
      path_check (decode cl root l) ≡ some r ↔ ((r.number ≡ empty_clue) × (j : ℕ) × (r.place ≡ suc j) × BelowEmpty cl root l j)
  path_check_refused r = go (decode cl root l) (starts cl root l) (stuck_iff cl root l)
    where
      go : (d : Decoded) → Starts root l d → ((j : ℕ) → d ≡ stuck (suc j) ↔ BelowEmpty cl root l j) →
          path_check d ≡ some r ↔ ((r.number ≡ empty_clue) × (j : ℕ) × (r.place ≡ suc j) × BelowEmpty cl root l j)
      go (path ns) s e = unfold path_check in (λ h. absurd (none-ne-some r h), λ h. absurd (stuck_path (sym ((e h.1).1 h.3))))
      go (stuck zero) s e = absurd (omega (arith, (s.stops 0 refl).0))
      go (stuck (suc i)) s e = unfold path_check in (
        λ h. let d = sym (some-injective _ r h) in (ap (λ (r : Refusal). r.number) d, i, ap (λ (r : Refusal). r.place) d, (e i).0 refl),
        λ h.
            let (number, j, place, b) = h in
            let same : i ≡ j = let f = (e j).1 b in cc in
            λ k. some (record { number = sym number k; place = (ap suc same ∙ sym place) k }),
      )
