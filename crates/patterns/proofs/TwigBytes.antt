-- The bytes of a twig: which are accepted, and what is read from them; accepted bytes give a good twig.
use mathlib.Core.Path.{◌≡◌, refl}
use mathlib.Core.Logic.Iff
use mathlib.Core.Logic.{◌↔◌, ◌⊎◌}
use mathlib.Core.Bool.{◌&&◌}
use mathlib.Core.List.{List, [], ◌∷◌}
use mathlib.Core.Option.{none, some}
use Prim.Native.Nat.{ℕ, zero, suc, ◌+◌, ◌*◌, ◌%◌, ◌≤◌, ◌<◌}
use native.Mathlib.Nat.{zero-add, add-zero, suc-add}
use native.Mathlib.Numerals.{unary_clauses}
use native.Mathlib.Omega.{arith}
use lib.ListN.{length, get_or}
use lib.Dec.{T, leb, ltb, eqb, leb→le, le→leb, ltb→lt, lt→ltb, eqb-suc-zero}
use Rattle.basics.specs.Limits.{node_size, max_twig, max_name, any_name, no_parent}
use Rattle.basics.specs.Refusals.{Refusal, twig_length, twig_parent, twig_edge, name_asked, twig_end}
use Rattle.naming.specs.Names.{is_name}
use Rattle.patterns.specs.Twigs.{GoodTwig, child_edge, descendant_edge, node_at, read_twig, parent_fits, name_check, node_check, nodes_check, twig_check}
use Rattle.basics.proofs.Tests.{eqb_alike, and_facts, or_facts}
use Rattle.basics.proofs.Refusals.{check_iff, first_iff, last_iff, each_check, each_first, each_last}

-- a parent's number fits exactly if it is 255 for node 0 and the number of an earlier node for another
pub parent_fits_iff : (i p : ℕ) → T (parent_fits i p) ↔ ((i ≡ 0 → p ≡ no_parent) × (0 < i → p < i))
unfolding parent_fits
parent_fits_iff zero p = (λ t. (λ e. (eqb_alike p no_parent).0 t, λ k. absurd (omega arith)), λ h. (eqb_alike p no_parent).1 (h.0 refl))
parent_fits_iff (suc i) p = rw eqb-suc-zero
    (λ t. (λ e. absurd (omega arith), λ k. ltb→lt p (suc i) t), λ h. lt→ltb p (suc i) (h.1 (omega arith)))

-- a name may be asked for exactly if it is 0 to 63 or 255
pub name_check_iff : (want place : ℕ) → name_check want place ≡ none ↔ ((want ≤ max_name) ⊎ (want ≡ any_name))
unfolding name_check is_name
name_check_iff want place = check_iff _ name_asked place
    (or_facts (leb want max_name) (eqb want any_name) (leb→le want max_name, le→leb want max_name) (eqb_alike want any_name))

-- the facts of refusals 5 to 8: the four bytes of node i are a parent's number, an edge, a name and a zero
pub record NodeFacts (i p e n z : ℕ) : Type 0 where
  pub rooted : i ≡ 0 → p ≡ no_parent
  pub earlier : 0 < i → p < i
  pub edge : (e ≡ child_edge) ⊎ (e ≡ descendant_edge)
  pub name : (n ≤ max_name) ⊎ (n ≡ any_name)
  pub end : z ≡ 0

-- a node is accepted exactly if the facts of refusals 5 to 8 hold
pub node_check_iff : (i p e n z : ℕ) → node_check i p e n z ≡ none ↔ NodeFacts i p e n z
unfolding node_check
node_check_iff i p e n z = Iff.trans
    (first_iff _ _ (check_iff (parent_fits i p) twig_parent i (parent_fits_iff i p))
    (first_iff _ _ (check_iff _ twig_edge i (or_facts (eqb e child_edge) (eqb e descendant_edge) (eqb_alike e child_edge) (eqb_alike e descendant_edge)))
    (first_iff _ _ (name_check_iff n i)
    (last_iff _ (check_iff (eqb z 0) twig_end i (eqb_alike z 0)))))) (
      λ h. record { rooted = h.0.0; earlier = h.0.1; edge = h.1.0; name = h.1.1.0; end = h.1.1.1 },
      λ f. ((f.rooted, f.earlier), (f.edge, (f.name, f.end))),
    )

-- the facts of a node with the number m at place j: its bytes are the four from 4 * j on
abbrev pub FactsAt : ℕ → List ℕ → ℕ → Type 0
FactsAt m bytes j =
    NodeFacts m (get_or bytes (node_size * j) 0) (get_or bytes (node_size * j + 1) 0) (get_or bytes (node_size * j + 2) 0) (get_or bytes (node_size * j + 3) 0)

-- the facts of a later node are those of the bytes after the first
pub facts_later : (i p e n z : ℕ) (bytes : List ℕ) (j : ℕ) → FactsAt (i + suc j) (p ∷ e ∷ n ∷ z ∷ bytes) (suc j) ≡ FactsAt (suc i + j) bytes j
facts_later i p e n z bytes j = simp (unary_clauses, suc-add)

-- nodes are accepted exactly if the facts of each of them hold
pub nodes_check_iff : (i : ℕ) (bytes : List ℕ) → nodes_check i bytes ≡ none ↔ ((j : ℕ) → node_size * j + 3 < length bytes → FactsAt (i + j) bytes j)
unfolding nodes_check
nodes_check_iff i [] = (λ h j k. absurd (omega arith), λ h. refl)
nodes_check_iff i (p ∷ []) = (λ h j k. absurd (omega arith), λ h. refl)
nodes_check_iff i (p ∷ e ∷ []) = (λ h j k. absurd (omega arith), λ h. refl)
nodes_check_iff i (p ∷ e ∷ n ∷ []) = (λ h j k. absurd (omega arith), λ h. refl)
nodes_check_iff i (p ∷ e ∷ n ∷ z ∷ bytes) = Iff.trans
    (first_iff _ _ (node_check_iff i p e n z) (last_iff _ (nodes_check_iff (suc i) bytes)))
    (λ h. each h.0 h.1, λ h. (rw add-zero at (h 0 (omega arith)), λ j k. rw facts_later at (h (suc j) (omega arith))))
  where
    each : NodeFacts i p e n z → ((j : ℕ) → node_size * j + 3 < length bytes → FactsAt (suc i + j) bytes j) →
        (j : ℕ) → node_size * j + 3 < length (p ∷ e ∷ n ∷ z ∷ bytes) → FactsAt (i + j) (p ∷ e ∷ n ∷ z ∷ bytes) j
    each this rest zero k = rw add-zero this
    each this rest (suc j) k = rw facts_later (rest j (omega arith))

-- the facts of refusals 4 to 8: the length, and the facts of each node, its number being its place
pub record TwigFacts (bytes : List ℕ) : Type 0 where
  pub some_node : 0 < length bytes
  pub few : length bytes ≤ max_twig
  pub fours : length bytes % node_size ≡ 0
  pub nodes : (i : ℕ) → node_size * i < length bytes → FactsAt i bytes i

-- a length is a twig's exactly if it is not 0, at most 32 and a multiple of 4
pub length_iff : (n : ℕ) → T (ltb 0 n && leb n max_twig && eqb (n % node_size) 0) ↔ (((0 < n) × (n ≤ max_twig)) × (n % node_size ≡ 0))
length_iff n = and_facts (ltb 0 n && leb n max_twig) (eqb (n % node_size) 0)
    (and_facts (ltb 0 n) (leb n max_twig) (ltb→lt 0 n, lt→ltb 0 n) (leb→le n max_twig, le→leb n max_twig)) (eqb_alike (n % node_size) 0)

-- bytes are accepted as a twig exactly if the facts of refusals 4 to 8 hold
pub twig_check_iff : (bytes : List ℕ) → twig_check bytes ≡ none ↔ TwigFacts bytes
unfolding twig_check
twig_check_iff bytes = Iff.trans (first_iff _ _ (check_iff _ twig_length 0 (length_iff (length bytes))) (last_iff _ (nodes_check_iff 0 bytes))) (
  λ h. record {
    some_node = h.0.0.0;
    few = h.0.0.1;
    fours = h.0.1;
    nodes = λ i k. rw zero-add at (h.1 i (omega (arith, h.0.1)));
  },
  λ f. (((f.some_node, f.few), f.fours), λ i k. rw zero-add (f.nodes i (omega arith))),
)

-- a node is refused at its own number for the place
pub node_check_place : (i p e n z : ℕ) (r : Refusal) → node_check i p e n z ≡ some r → r.place ≡ i
unfolding node_check name_check
node_check_place i p e n z =
    let P : Refusal → Type 0 = λ r. r.place ≡ i in
    each_first P _ _ (each_check P _ twig_parent i refl)
    (each_first P _ _ (each_check P _ twig_edge i refl)
    (each_first P _ _ (each_check P _ name_asked i refl)
    (each_last P _ (each_check P _ twig_end i refl))))

-- a twig has a node for every four bytes
pub length-read_twig : (bytes : List ℕ) → (4 * length (read_twig bytes) ≤ length bytes) × (length bytes < 4 * length (read_twig bytes) + 4)
unfolding read_twig
length-read_twig [] = omega arith
length-read_twig (p ∷ []) = omega arith
length-read_twig (p ∷ e ∷ []) = omega arith
length-read_twig (p ∷ e ∷ n ∷ []) = omega arith
length-read_twig (p ∷ e ∷ n ∷ z ∷ bytes) = let h = length-read_twig bytes in omega arith

-- node i of the twig read is what stands at its four bytes
pub read_twig_at : (bytes : List ℕ) (i : ℕ) → node_size * i + 3 < length bytes → node_at (read_twig bytes) i ≡
    record { parent = get_or bytes (node_size * i) 0; edge = get_or bytes (node_size * i + 1) 0; name = get_or bytes (node_size * i + 2) 0 }
unfolding read_twig
read_twig_at [] i k = absurd (omega arith)
read_twig_at (p ∷ []) i k = absurd (omega arith)
read_twig_at (p ∷ e ∷ []) i k = absurd (omega arith)
read_twig_at (p ∷ e ∷ n ∷ []) i k = absurd (omega arith)
read_twig_at (p ∷ e ∷ n ∷ z ∷ bytes) zero k = refl
read_twig_at (p ∷ e ∷ n ∷ z ∷ bytes) (suc i) k = simp unary_clauses (simp unary_clauses at (read_twig_at bytes i (omega arith)))

-- accepted bytes give a good twig
pub accepted_twig : (bytes : List ℕ) → twig_check bytes ≡ none → GoodTwig (read_twig bytes)
accepted_twig bytes h =
    let f = (twig_check_iff bytes).0 h in
    let long = length-read_twig bytes in
    let at = read_twig_at bytes in
    record {
      some_node = omega arith;
      few = omega arith;
      rooted = rw (at 0 (omega arith)) ((f.nodes 0 (omega arith)).rooted refl);
      earlier_parent = λ i p k. rw (at i (omega arith)) ((f.nodes i (omega arith)).earlier p);
    }
