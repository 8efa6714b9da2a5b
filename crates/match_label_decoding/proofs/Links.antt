-- One label of a stream: what each way out of `read_label` tells of whether the label may stand there.
use Prim.Native.Nat.{ℕ, zero, suc, ◌≤◌}
use mathlib.Core.Path.{◌≡◌, refl, sym, ap, subst, ◌∙◌}
use mathlib.Core.Bool.{Bool, true, false, not, ◌&&◌, ◌||◌, and-true, and-false}
use mathlib.Core.List.{List}
use native.Mathlib.Omega.{arith}
use lib.ListN.{length, get_or, take}
use lib.Dec.{eqb, eqb-suc-zero}
use borrow.Author.Tests.{not-true, not-false}
use Rattle.std.specs.Bool.{then_some}
use Rattle.std.specs.Prelude.{Option}
use Rattle.basics.specs.Basics.{elim?}
use Rattle.naming.specs.Names.{Clues}
use Rattle.labelling.specs.Labels.{Label, before, shared, Decoded, path, stuck, decode, end_of, name_at, label_of, is_label}
use Rattle.embeddings.specs.Matches.{asks, fits}
use Rattle.match_calls.specs.Matching.{in_stream}
use Rattle.labelling.proofs.Kinship.{shared_alike, shared_low, shared_comm}
use Rattle.match_label_decoding.specs.Streams.{Along, leads_on, words_at, label_at, previous_at, label_before, label_stands}
use Rattle.match_label_decoding.specs.Answers.{link_of}
use Rattle.match_label_decoding.proofs.Along.{along_front, along_fits}

-- two labels share no more components than the second has
pub share_in : (l m : Label) {s : ℕ} → s ≡ shared l m → s ≤ length m
share_in l m e = omega (arith, e ∙ shared_comm l m, shared_low m l)

-- names along a label begin with the names along the part that another label shares with it
pub share_along : (cl : Clues) (root : ℕ) (ns : List ℕ) (m : Label) {l p : Label} {s : ℕ} → p ≡ l → s ≡ shared p m →
    Along cl root l ns → Along cl root (take s m) ns
share_along cl root ns m {l} {p} {s} same is along =
    let here : s ≡ shared l m = is ∙ ap (λ k. shared k m) same in
    let alike : take s l ≡ take s m = subst (λ k. take k l ≡ take k m) (sym here) (shared_alike l m) in
    subst (λ k. Along cl root k ns) alike (along_front cl root l ns along s (omega (arith, here, shared_low l m)))

-- a label on whose way a clue is empty fits no name
stuck_fits : (cl : Clues) (root want : ℕ) (l : Label) → leads_on (decode cl root l) ≡ false → fits cl root want l ≡ false
unfolding fits name_at
stuck_fits cl root want l = go (decode cl root l)
  where
    go : (d : Decoded) → leads_on d ≡ false → elim? (end_of d) false (asks want) ≡ false
    go (path ns) e = let z : ◌≡◌ {A = Bool} true false = unfold leads_on in e in cc
    go (stuck i) e = unfold elim? end_of in refl

-- the test of a label's order is that of the definition: the first label passes, another comes after the one before it
later_is : (i : ℕ) (ws : List ℕ) (l : Label) → (eqb i 0 || before (label_before i ws) l) ≡ elim? (previous_at i ws) true (λ p. before p l)
unfolding label_before previous_at elim?
later_is zero ws l = refl
later_is (suc i) ws l = rw (eqb-suc-zero)

module _ (cl : Clues) (root want i : ℕ) (ws : List ℕ) where
  module _ {words : List ℕ} (at : words ≡ words_at i ws) {x : Bool} (is : x ≡ is_label words) where
    -- words that are no label
    pub link_label : not x ≡ true → label_stands cl root want i ws ≡ false
    unfolding in_stream
    link_label e = rw (← at, ← is, not-true x e)

    module _ {l : Label} (of : l ≡ label_of words) {p : Label} (previous : p ≡ label_before i ws) {b : Bool} (order : b ≡ (eqb i 0 || before p l)) where
      -- the tests of the label, in the order of the definition
      tests : label_stands cl root want i ws ≡ (x && fits cl root want l && b)
      unfolding in_stream
      tests = rw (← at, ← is, ← of, ← later_is i ws l, ← previous, ← order)

      -- a label out of order
      pub link_later : not b ≡ true → label_stands cl root want i ws ≡ false
      link_later e = tests ∙ rw (not-true b e) (and-false (x && fits cl root want l))

      -- a label with an empty clue on its way
      pub link_stuck : {d : Bool} → d ≡ leads_on (decode cl root l) → not d ≡ true → label_stands cl root want i ws ≡ false
      link_stuck {d} told e = tests ∙ rw (stuck_fits cl root want l (sym told ∙ not-true d e)) (ap (λ y. y && b) (and-false x))

      module _ (ns : List ℕ) {d : Bool} (given : d ≡ true → Along cl root l ns) (led : not d ≡ false)
          {a : Bool} (asked : a ≡ asks want (get_or ns (length l) 0)) where
        -- the names along the label
        along : Along cl root l ns
        along = given (not-false d led)

        -- the label fits if the last name along it is asked for
        fit : fits cl root want l ≡ a
        fit = along_fits cl root l ns along want ∙ sym asked

        -- a label that is one, in order, stands if its name is asked for
        link_asked : not x ≡ false → not b ≡ false → label_stands cl root want i ws ≡ a
        link_asked e f = tests ∙ rw (fit, not-false x e, not-false b f) (and-true a)

        -- a label that passes every test stands
        pub link_stands : not x ≡ false → not b ≡ false → not a ≡ false → label_stands cl root want i ws ≡ true
        link_stands e f g = link_asked e f ∙ not-false a g

        -- a label that is one, in order, tells what it shares if its name is asked for
        pub link_read : not x ≡ false → not b ≡ false → {s : ℕ} {r : Option ℕ} → s ≡ shared p l → r ≡ then_some a s →
            r ≡ link_of (label_stands cl root want i ws) (shared (label_before i ws) (label_at i ws))
        link_read e f {s} share is = is ∙ rw (link_asked e f, ← at, ← of, ← previous, ← share) (told a)
          where
            told : (c : Bool) → then_some c s ≡ link_of c s
            told true = refl
            told false = refl

        -- the names found are those along label i
        pub link_along : Along cl root (label_at i ws) ns
        link_along = subst (λ m. Along cl root m ns) (of ∙ ap label_of at) along
