-- The walk along a label's components: the names so far are what the components so far decode to.
use Prim.Native.Nat.{ℕ, suc, ◌+◌, ◌-◌, ◌≤◌, ◌<◌}
use mathlib.Core.Path.{◌≡◌, refl, sym, ap, ◌∙◌}
use mathlib.Core.List.{List, [], ◌∷◌, ◌++◌, append_assoc}
use mathlib.Core.Option.{some}
use native.Mathlib.Numerals.{add-one}
use native.Mathlib.Omega.{arith}
use lib.ListN.{length, get_or, take, drop, set, replicate, take-append-drop, length-append}
use lib.Seq.{take_all, take-suc, set_at}
use Rattle.std.specs.Prelude.{Some, None}
use Rattle.std.specs.Prelude as std
use Rattle.basics.specs.Basics.{elim?, last}
use Rattle.basics.specs.Limits.{max_depth, label_size}
use Rattle.basics.specs.Refusals.{refuse, empty_clue}
use Rattle.naming.specs.Names.{Clues, led}
use Rattle.labelling.specs.Labels.{Label, path, stuck, decode, path_check, names_in}
use Rattle.basics.proofs.Lists.{last_snoc}
use Rattle.labelling.proofs.Decode.{further, decode_snoc, decode_child, stuck_more}
use Rattle.bridges.specs.Options.{optional}
use Rattle.bridges.proofs.Options.{given_some, given_none}
use Rattle.refusals.specs.declared.Verdict.{Verdict}
use Rattle.refusals.specs.declared.Verdict.TheVariants as verdict
use Rattle.refusals.specs.Answers.{verdict_of}
use Rattle.decoding.specs.declared.Decoding.{Decoding}
use Rattle.decoding.specs.Answers.{decoding_refused, decoded_by}

-- after i components: the name reached is p, and the names so far fill the first i + 1 places
pub record Walked (cl : Clues) (root : ℕ) (l : Label) (p i : ℕ) (names : List ℕ) : Type 0 where
  pub so_far : List ℕ
  pub decoded : decode cl root (take i l) ≡ path so_far
  pub many : length so_far ≡ i + 1
  pub reached : last so_far ≡ p
  pub held : names ≡ so_far ++ replicate (max_depth - i) 0

-- before the first component the name reached is the root's
pub walk_from : (cl : Clues) (root : ℕ) (l : Label) → Walked cl root l root 0 (root ∷ replicate max_depth 0)
unfolding decode last
walk_from cl root l = record { so_far = root ∷ []; decoded = refl; many = refl; reached = refl; held = refl }

module _ (cl : Clues) (root : ℕ) (l : Label) (p i : ℕ) (names : List ℕ) (w : Walked cl root l p i names) where
  -- at the end the names are those of the path
  pub walk_end : i ≤ length l → length l ≤ i → length l ≤ max_depth → record { verdict = verdict.Passed; names = names } ≡ decoded_by (decode cl root l)
  unfolding path_check names_in
  walk_end low high short =
      let whole : take i l ≡ l = take_all i l high in
      let e : decode cl root l ≡ path w.so_far = ap (decode cl root) (sym whole) ∙ w.decoded in
      let left : label_size - length w.so_far ≡ max_depth - i = omega (arith, w.many) in
      rw (e, left) (ap {B = Decoding} (λ ns. record { verdict = verdict.Passed; names = ns }) w.held)

  module _ (h : i < length l) where
    -- the first i + 1 components are the first i and component i
    next : take (i + 1) l ≡ take i l ++ (get_or l i 0 ∷ [])
    next = ap (λ n. take n l) (add-one i) ∙ take-suc l i 0 h

    -- a component that leads nowhere is refused, 16 at the component
    pub walk_stuck : {x : std.Option ℕ} {u : Verdict} {r : Decoding} → x ≡ optional (led (cl p) (get_or l i 0)) → x ≡ None →
        u ≡ verdict_of (refuse empty_clue (i + 1)) → r ≡ decoding_refused u → r ≡ decoded_by (decode cl root l)
    unfolding path_check names_in further elim?
    walk_stuck e nowhere g f =
        let now : decode cl root (take (i + 1) l) ≡ stuck (i + 1) =
        ap (decode cl root) next ∙ decode_snoc cl root (take i l) (get_or l i 0) ∙
        rw (w.decoded, w.reached, given_none (led (cl p) (get_or l i 0)) e nowhere, w.many) in
        let all : decode cl root l ≡ stuck (i + 1) =
        ap (decode cl root) (sym (take-append-drop (i + 1) l)) ∙ stuck_more cl root (take (i + 1) l) (drop (i + 1) l) (i + 1) now in
        f ∙ ap decoding_refused g ∙ sym (ap decoded_by all)

    -- a component that leads to a name puts it into the next place
    pub walk_on : {x : std.Option ℕ} {c : ℕ} → x ≡ optional (led (cl p) (get_or l i 0)) → x ≡ Some c → length l ≤ max_depth →
        Walked cl root l c (i + 1) (set names (i + 1) c)
    walk_on {x} {c} e named short =
        let leads : led (cl (last w.so_far)) (get_or l i 0) ≡ some c = ap (λ n. led (cl n) (get_or l i 0)) w.reached ∙ given_some _ e named in
        let left : max_depth - i ≡ suc (max_depth - (i + 1)) = omega arith in
        record {
          so_far = w.so_far ++ (c ∷ []);
          decoded = ap (decode cl root) next ∙ decode_child cl root (take i l) w.so_far (get_or l i 0) c w.decoded leads;
          many = length-append w.so_far (c ∷ []) ∙ ap (λ n. n + 1) w.many;
          reached = last_snoc w.so_far c;
          held =
              ap (λ (ns : List ℕ). set ns (i + 1) c) (w.held ∙ ap (λ n. w.so_far ++ replicate n 0) left) ∙
              set_at w.so_far 0 (replicate (max_depth - (i + 1)) 0) c (i + 1) w.many ∙
              sym (append_assoc w.so_far (c ∷ []) (replicate (max_depth - (i + 1)) 0));
        }
