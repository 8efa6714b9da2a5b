-- What each way out of the calls on two labels tells of the definitions.
use Prim.Native.Nat.{ℕ, ◌+◌}
use mathlib.Core.Path.{◌≡◌, sym, ap, ap₂, subst, ◌∙◌}
use mathlib.Core.Logic.Iff
use mathlib.Core.List.{List}
use mathlib.Core.Bool.{Bool, true, false, not, ◌&&◌}
use lib.ListN.{length}
use lib.Dec.{T}
use borrow.Author.Tests.{eq-eqb, ne_eqb, not-true, not-false}
use Rattle.std.specs.Prelude.{Ok, Err}
use Rattle.basics.specs.Refusals.{not_label, value, refused}
use Rattle.labelling.specs.Labels.{Label, before, shared, within, kinship, follows, label_of, is_label, kinship_call, follows_call}
use Rattle.basics.proofs.Tests.{and_iff, is_true, test_equal}
use Rattle.labelling.proofs.LabelOrder.{precedes_iff}
use Rattle.labelling.proofs.Kinship.{shared_comm, follows_iff}
use Rattle.labelling.proofs.LabelCalls.{kinship_call_lem, kinship_refused, follows_call_lem, follows_refused}
use Rattle.refusals.specs.Answers.{refusal_of}
use Rattle.refusals.specs.declared.Refusal.{Refusal}
use Rattle.labels.proofs.Steps.{passed}
use Rattle.kinship.specs.Answers.{relation_number, kinship_reply, follows_of}
use Rattle.kinship.specs.declared.Relation.{Relation}

-- kinship by the number s of shared components
module _ (l m : Label) {s : ℕ} (e : s ≡ shared l m) where
  module _ (p : s ≡ length l) where
    -- labels that share all of both are the same
    pub kin_same : s ≡ length m → 0 ≡ kinship l m
    unfolding kinship within
    kin_same q = rw (shared_comm m l, ← e, eq-eqb _ _ p, eq-eqb _ _ q)

    module _ (q : s ≡ length m → ⊥) where
      -- where all of the first label is shared and the second has one component more, the first is the parent's
      pub kin_parent : length m ≡ length l + 1 → 1 ≡ kinship l m
      unfolding kinship within
      kin_parent r = rw (shared_comm m l, ← e, eq-eqb _ _ p, ne_eqb _ _ q, eq-eqb _ _ r)

      -- where all of the first label is shared and the second has
      -- several components more, the first is a higher ancestor's
      pub kin_above : (length m ≡ length l + 1 → ⊥) → 2 ≡ kinship l m
      unfolding kinship within
      kin_above r = rw (shared_comm m l, ← e, eq-eqb _ _ p, ne_eqb _ _ q, ne_eqb _ _ r)

  module _ (p : s ≡ length l → ⊥) where
    -- where neither label is shared whole, the two are unrelated
    pub kin_none : (s ≡ length m → ⊥) → 5 ≡ kinship l m
    unfolding kinship within
    kin_none q = rw (shared_comm m l, ← e, ne_eqb _ _ p, ne_eqb _ _ q)

    module _ (q : s ≡ length m) where
      -- where all of the second label is shared and the first has one component more, the first is a child's
      pub kin_child : length l ≡ length m + 1 → 3 ≡ kinship l m
      unfolding kinship within
      kin_child r = rw (shared_comm m l, ← e, ne_eqb _ _ p, eq-eqb _ _ q, eq-eqb _ _ r)

      -- where all of the second label is shared and the first has
      -- several components more, the first is a deeper descendant's
      pub kin_below : (length l ≡ length m + 1 → ⊥) → 4 ≡ kinship l m
      unfolding kinship within
      kin_below r = rw (shared_comm m l, ← e, ne_eqb _ _ p, eq-eqb _ _ q, ne_eqb _ _ r)

-- two lists of words, where `is_label` answered x for the first
module _ (a b : List ℕ) {x : Bool} (is : x ≡ is_label a) where
  -- where the first is a label, the second decides
  pub both_rest : x ≡ true → {y : Bool} → y ≡ is_label b → y ≡ (is_label a && is_label b)
  both_rest e f = rw (← is, e) f

  -- where the first is no label, not both are
  pub both_not : x ≡ false → x ≡ (is_label a && is_label b)
  both_not e = rw (← is, e)

-- whether a label follows another is label order from the other to it
follows_is : (l m : Label) → before m l ≡ follows l m
follows_is l m = test_equal (before m l) (follows l m) (Iff.trans (precedes_iff m l) (Iff.symm (follows_iff l m)))

-- two lists of words, where `both_labels` answered x
module _ (a b : List ℕ) {x : Bool} (is : x ≡ (is_label a && is_label b)) where
  -- where `both_labels` fails, the two are not both labels
  pub not_both : not x ≡ true → (is_label a && is_label b) ≡ false
  not_both e = sym is ∙ not-true x e

  module _ (e : not x ≡ false) where
    -- where `both_labels` passes, the first and the second are labels
    both : T (is_label a) × T (is_label b)
    both = (and_iff (is_label a) (is_label b)).0 (passed (sym is ∙ not-false x e))

    -- the first is a label
    pub first_label : is_label a ≡ true
    first_label = is_true (is_label a) both.0

    -- the second is a label
    pub second_label : is_label b ≡ true
    second_label = is_true (is_label b) both.1

    module _ {l m : Label} (p : l ≡ label_of a) (q : m ≡ label_of b) where
      -- kinship is that of the components
      pub kinship_answers : (k : Relation) → relation_number k ≡ kinship l m → kinship_reply (Ok k) ≡ kinship_call a b
      kinship_answers k f = rw (kinship_call_lem a b both.0 both.1, ← p, ← q) (ap value f)

      -- the first follows where its components come after those of the second
      pub follows_answers : {r : Bool} → r ≡ before m l → Ok r ≡ follows_of (follows_call a b)
      follows_answers f = rw (follows_call_lem a b both.0 both.1, ← p, ← q) (ap Ok (f ∙ follows_is l m))

-- a refusal by 15 at place 0
refusal_is : (r : Refusal) → r.number ≡ not_label → r.place ≡ 0 → r ≡ refusal_of (record { number = not_label; place = 0 })
refusal_is r n p = ap₂ (λ (a b : ℕ). refusal_of (record { number = a; place = b })) n p

-- a call on words that are not both a label
module _ (a b : List ℕ) (n : (is_label a && is_label b) ≡ false) where
  -- the tests of two lists of words that are not both labels do not both pass
  never_both : (T (is_label a) × T (is_label b)) → ⊥
  never_both h = subst T n ((and_iff (is_label a) (is_label b)).1 h)

  module _ (r : Refusal) (e : r.number ≡ not_label) (d : r.place ≡ 0) where
    -- kinship of words that are not both labels is refused
    pub kinship_refuses : kinship_reply (Err r) ≡ kinship_call a b
    kinship_refuses = rw (kinship_refused a b never_both) (ap₂ (λ (n p : ℕ). refused (record { number = n; place = p })) e d)

    -- whether words follow others is refused where not both are labels
    pub follows_refuses : Err r ≡ follows_of (follows_call a b)
    follows_refuses = rw (follows_refused a b never_both) (ap Err (refusal_is r e d))
