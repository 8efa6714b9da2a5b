-- Refusals 4 to 8 by their facts: that of the length,
-- or of the first node with a fact that fails, by the first of the node's facts that does.
use mathlib.Core.Path.{◌≡◌, refl, sym, ap, subst, ◌∙◌}
use mathlib.Core.Logic.{◌↔◌, ◌⊎◌, inl, inr, ⊎_elim}
use mathlib.Core.Bool.{Bool, true, false}
use mathlib.Core.List.{List, [], ◌∷◌}
use mathlib.Core.Option.{Option, none, none-ne-some, some-injective}
use Prim.Native.Nat.{ℕ, zero, suc, ◌+◌, ◌*◌, ◌%◌, ◌≤◌, ◌<◌}
use native.Mathlib.Nat.{add-zero, suc-add}
use native.Mathlib.Numerals.{unary_clauses}
use native.Mathlib.Omega.{arith}
use lib.ListN.{length, get_or}
use lib.Dec.{T, leb, eqb, leb→le, le→leb}
use Rattle.basics.specs.Limits.{node_size, max_twig, max_name, any_name, no_parent}
use Rattle.basics.specs.Refusals.{Refusal, refuse, check, first, twig_length, twig_parent, twig_edge, name_asked, twig_end}
use Rattle.naming.specs.Names.{is_name}
use Rattle.patterns.specs.Twigs.{child_edge, descendant_edge, parent_fits, name_check, node_check, nodes_check, twig_check}
use Rattle.basics.proofs.Tests.{eqb_alike, or_facts}
use Rattle.basics.proofs.Refusals.{check_iff, refuse_number, first_some, first_here, first_next, first_rest, first_last}
use Rattle.patterns.proofs.TwigBytes.{NodeFacts, parent_fits_iff, length_iff, node_check_iff, node_check_place, FactsAt, facts_later}

-- a check refuses by a number at a place exactly if both are its own and its fact does not hold
told_at : {P : Type 0} (b : Bool) (n i m j : ℕ) → T b ↔ P → check b n i ≡ refuse m j ↔ ((m ≡ n) × (j ≡ i) × (P → ⊥))
unfolding check
told_at true n i m j e = (λ h. absurd (none-ne-some _ h), λ h. absurd (h.2 (e.0 tt)))
told_at false n i m j e = (
  λ h. (sym (refuse_number h), sym (ap (λ (r : Refusal). r.place) (some-injective _ _ h)), λ p. e.1 p),
  λ h. rw (h.0, h.1) refl,
)

-- a check refuses by a number at its own place exactly if the number is its own and its fact does not hold
told_by : {P : Type 0} (b : Bool) (n m i : ℕ) → T b ↔ P → check b n i ≡ refuse m i ↔ ((m ≡ n) × (P → ⊥))
told_by b n m i e = let told = told_at b n i m i e in (λ h. ((told.0 h).0, (told.0 h).2), λ h. told.1 (h.0, refl, h.1))

-- a list of checks refuses by a number exactly if its first check does, or that check's fact holds and the others do
told_first : {P Q : Type 0} (b : Bool) (n m i : ℕ) (cs : List (Option Refusal)) → T b ↔ P → first cs ≡ refuse m i ↔ Q →
    first (check b n i ∷ cs) ≡ refuse m i ↔ (((m ≡ n) × (P → ⊥)) ⊎ (P × Q))
told_first b n m i cs e f = (
  λ h. ⊎_elim (λ d. inl ((told_by b n m i e).0 d)) (λ k. inr ((check_iff b n i e).0 k.0, f.0 k.1)) (first_some _ cs _ h),
  ⊎_elim (λ d. first_here _ _ cs ((told_by b n m i e).1 d)) (λ k. first_rest _ cs ((check_iff b n i e).1 k.0) ∙ f.1 k.1),
)

-- the fact of refusal 5: node 0 has no parent, another node an earlier one
abbrev pub ParentFact : ℕ → ℕ → Type 0
ParentFact i p = (i ≡ 0 → p ≡ no_parent) × (0 < i → p < i)

-- the fact of refusal 6: the edge is to a child or to a descendant
abbrev pub EdgeFact : ℕ → Type 0
EdgeFact e = (e ≡ child_edge) ⊎ (e ≡ descendant_edge)

-- the fact of refusal 7: the name asked for is 0 to 63 or 255
abbrev pub NameFact : ℕ → Type 0
NameFact n = (n ≤ max_name) ⊎ (n ≡ any_name)

-- the first fact that fails of node i is that of the refusal with a number
abbrev pub NodeBreaks : ℕ → ℕ → ℕ → ℕ → ℕ → ℕ → Type 0
NodeBreaks i p e n z number =
    ((number ≡ twig_parent) × (ParentFact i p → ⊥)) ⊎ (ParentFact i p ×
    (((number ≡ twig_edge) × (EdgeFact e → ⊥)) ⊎ (EdgeFact e ×
    (((number ≡ name_asked) × (NameFact n → ⊥)) ⊎ (NameFact n × ((number ≡ twig_end) × (z ≡ 0 → ⊥)))))))

-- a node is refused by a number exactly if the first of its facts that fails is that number's
pub node_check_refused : (i p e n z number : ℕ) → node_check i p e n z ≡ refuse number i ↔ NodeBreaks i p e n z number
unfolding node_check name_check is_name
node_check_refused i p e n z number =
    told_first (parent_fits i p) twig_parent number i _ (parent_fits_iff i p)
    (told_first _ twig_edge number i _ (or_facts (eqb e child_edge) (eqb e descendant_edge) (eqb_alike e child_edge) (eqb_alike e descendant_edge))
    (told_first _ name_asked number i _ (or_facts (leb n max_name) (eqb n any_name) (leb→le n max_name, le→leb n max_name) (eqb_alike n any_name))
    (subst (λ o. o ≡ refuse number i ↔ ((number ≡ twig_end) × (z ≡ 0 → ⊥))) (sym (first_last _)) (told_by (eqb z 0) twig_end number i (eqb_alike z 0)))))

-- the first fact that fails of the node with the number m at place j is that of the refusal with a number
abbrev pub BreaksAt : ℕ → List ℕ → ℕ → ℕ → Type 0
BreaksAt m bytes j =
    NodeBreaks m (get_or bytes (node_size * j) 0) (get_or bytes (node_size * j + 1) 0) (get_or bytes (node_size * j + 2) 0) (get_or bytes (node_size * j + 3) 0)

-- what a later node breaks is told by the bytes behind the first node
breaks_later : (i p e n z : ℕ) (bytes : List ℕ) (j number : ℕ) → BreaksAt (i + suc j) (p ∷ e ∷ n ∷ z ∷ bytes) (suc j) number ≡ BreaksAt (suc i + j) bytes j number
breaks_later i p e n z bytes j number = simp (unary_clauses, suc-add)

-- the first node with a fact that fails, where nodes are numbered from i on: its place, and the number of the fact
pub record FirstBroken (i : ℕ) (bytes : List ℕ) (number place : ℕ) : Type 0 where
  pub node : ℕ
  pub inside : node_size * node + 3 < length bytes
  pub placed : place ≡ i + node
  pub earlier : (k : ℕ) → k < node → FactsAt (i + k) bytes k
  pub breaks : BreaksAt (i + node) bytes node number

-- bytes too few for a node have no broken node
none_broken : {i : ℕ} {bytes : List ℕ} {number place : ℕ} → length bytes < 4 → FirstBroken i bytes number place → ⊥
none_broken short f = omega (arith, f.inside)

-- Nodes are refused by a number at a place exactly if the first node with a fact that fails is at the place
-- and the first of its facts that fails has the number.
pub nodes_check_refused : (i : ℕ) (bytes : List ℕ) (number place : ℕ) → nodes_check i bytes ≡ refuse number place ↔ FirstBroken i bytes number place
unfolding nodes_check
nodes_check_refused i [] number place = (λ h. absurd (none-ne-some _ h), λ f. absurd (none_broken (omega arith) f))
nodes_check_refused i (p ∷ []) number place = (λ h. absurd (none-ne-some _ h), λ f. absurd (none_broken (omega arith) f))
nodes_check_refused i (p ∷ e ∷ []) number place = (λ h. absurd (none-ne-some _ h), λ f. absurd (none_broken (omega arith) f))
nodes_check_refused i (p ∷ e ∷ n ∷ []) number place = (λ h. absurd (none-ne-some _ h), λ f. absurd (none_broken (omega arith) f))
nodes_check_refused i (p ∷ e ∷ n ∷ z ∷ bytes) number place =
    let rest = nodes_check_refused (suc i) bytes number place in (
      λ h. ⊎_elim here (λ k. later k.0 (rest.0 (sym (first_last _) ∙ k.1))) (first_some _ _ _ h),
      λ f. at f.node f.inside f.placed f.earlier f.breaks rest.1,
    )
  where
    here : node_check i p e n z ≡ refuse number place → FirstBroken i (p ∷ e ∷ n ∷ z ∷ bytes) number place
    here d =
        let same : place ≡ i = node_check_place i p e n z _ d in
        record {
          node = 0;
          inside = omega arith;
          placed = omega arith;
          earlier = λ k l. absurd (omega arith);
          breaks = rw add-zero ((node_check_refused i p e n z number).0 (d ∙ ap (refuse number) same));
        }

    each : (m : ℕ) → NodeFacts i p e n z → ((k : ℕ) → k < m → FactsAt (suc i + k) bytes k) → (k : ℕ) → k < suc m → FactsAt (i + k) (p ∷ e ∷ n ∷ z ∷ bytes) k
    each m this others zero l = rw add-zero this
    each m this others (suc k) l = rw facts_later (others k (omega arith))

    later : node_check i p e n z ≡ none → FirstBroken (suc i) bytes number place → FirstBroken i (p ∷ e ∷ n ∷ z ∷ bytes) number place
    later a f = record {
      node = suc f.node;
      inside = omega (arith, f.inside);
      placed = omega (arith, f.placed);
      earlier = each f.node ((node_check_iff i p e n z).0 a) f.earlier;
      breaks = rw breaks_later f.breaks;
    }

    at : (j : ℕ) → node_size * j + 3 < length (p ∷ e ∷ n ∷ z ∷ bytes) → place ≡ i + j → ((k : ℕ) → k < j → FactsAt (i + k) (p ∷ e ∷ n ∷ z ∷ bytes) k) →
        BreaksAt (i + j) (p ∷ e ∷ n ∷ z ∷ bytes) j number → (FirstBroken (suc i) bytes number place → nodes_check (suc i) bytes ≡ refuse number place) →
        first (node_check i p e n z ∷ nodes_check (suc i) bytes ∷ []) ≡ refuse number place
    at zero inside placed earlier breaks rest =
        let same : i ≡ place = omega arith in
        first_here _ _ _ ((node_check_refused i p e n z number).1 (rw add-zero at breaks) ∙ ap (refuse number) same)
    at (suc j) inside placed earlier breaks rest = first_next _ _ ((node_check_iff i p e n z).1 (rw add-zero at (earlier 0 (omega arith)))) ∙ rest (record {
      node = j;
      inside = omega arith;
      placed = omega arith;
      earlier = λ k l. rw facts_later at (earlier (suc k) (omega arith));
      breaks = rw breaks_later at breaks;
    })

-- the facts of refusal 4: the length is not 0, at most 32 and a multiple of 4
abbrev pub LengthFact : ℕ → Type 0
LengthFact n = ((0 < n) × (n ≤ max_twig)) × (n % node_size ≡ 0)

-- A twig is refused by 4 at 0 exactly if its length is no twig's,
-- and else by 5 to 8 exactly at the first node with a fact that fails.
pub twig_check_refused : (bytes : List ℕ) (number place : ℕ) → twig_check bytes ≡ refuse number place ↔
    (((number ≡ twig_length) × (place ≡ 0) × (LengthFact (length bytes) → ⊥)) ⊎ (LengthFact (length bytes) × FirstBroken 0 bytes number place))
unfolding twig_check
twig_check_refused bytes number place =
    let fits = length_iff (length bytes) in
    let nodes = nodes_check_refused 0 bytes number place in (
      λ h. ⊎_elim (λ d. inl ((told_at _ twig_length 0 number place fits).0 d)) (λ k. inr ((check_iff _ twig_length 0 fits).0 k.0, nodes.0 (sym (first_last _) ∙ k.1))) (first_some _ _ _ h),
      ⊎_elim (λ d. first_here _ _ _ ((told_at _ twig_length 0 number place fits).1 d)) (λ k. first_next _ _ ((check_iff _ twig_length 0 fits).1 k.0) ∙ nodes.1 k.1),
    )
