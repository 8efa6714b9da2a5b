-- The checks of a twig's bytes, for each way out of their code.
use Prim.Native.Nat.{ℕ, zero, suc, ◌+◌, ◌*◌, ◌%◌, ◌<◌, ◌≤◌}
use mathlib.Core.Path.{◌≡◌, refl, sym, ap, ◌∙◌}
use mathlib.Core.Bool.{Bool, true, false, not, ◌&&◌, ◌||◌}
use mathlib.Core.List.{List, [], ◌∷◌}
use mathlib.Core.Option.{Option, none}
use native.Mathlib.Nat.{suc-mul}
use native.Mathlib.Numerals.{add-one, unary_clauses}
use native.Mathlib.Omega.{arith}
use lib.ListN.{length, get_or, drop, length-drop}
use lib.Dec.{ltb, leb, eqb}
use borrow.Author.Tests.{eq-eqb, ne_eqb, lt-ltb, le-leb, lt-leb, not-true, not-false}
use Rattle.basics.specs.Limits.{node_size, max_twig, any_name, no_parent}
use Rattle.basics.specs.Refusals.{Refusal, refuse, check, first, twig_length, twig_parent, twig_edge, name_asked, twig_end}
use Rattle.naming.specs.Names.{is_name}
use Rattle.patterns.specs.Twigs.{child_edge, descendant_edge, node_at, read_twig, parent_fits, name_check, node_check, nodes_check, twig_check}
use Rattle.basics.proofs.Refusals.{first_here, first_next}
use Rattle.patterns.proofs.TwigBytes.{length-read_twig}
use Rattle.refusals.specs.Answers.{verdict_of}
use Rattle.refusals.specs.declared.Refusal as declared
use Rattle.refusals.specs.declared.Verdict.{Verdict}
use Rattle.refusals.specs.declared.Verdict.TheVariants as verdict
use Rattle.refusals.proofs.Verdicts.{passed_none, refused_some}
use Rattle.twigs.specs.declared.Node.{Node}
use Rattle.twigs.specs.Answers.{node_of}
use Rattle.twig_checks.specs.Answers.{node_check_at}

module _ (n : ℕ) where
  -- a length of 0 is no twig's
  pub length_none : n ≡ 0 → false ≡ (ltb 0 n && leb n max_twig && eqb (n % node_size) 0)
  length_none h = rw h

  module _ (some_byte : n ≡ 0 → ⊥) where
    -- a length over 32 is no twig's
    pub length_long : max_twig < n → false ≡ (ltb 0 n && leb n max_twig && eqb (n % node_size) 0)
    length_long h = rw (lt-ltb 0 n (omega arith), lt-leb n max_twig h)

    -- a length up to 32 that is not 0 is a twig's exactly if it is a multiple of 4
    pub length_fours : n ≤ max_twig → eqb (n % node_size) 0 ≡ (ltb 0 n && leb n max_twig && eqb (n % node_size) 0)
    length_fours h = rw (lt-ltb 0 n (omega arith), le-leb n max_twig h)

-- the parent's number of node 0 fits exactly if it is 255
pub fits_root : (q p : ℕ) → q ≡ 0 → eqb p no_parent ≡ parent_fits q p
unfolding parent_fits
fits_root q p h = rw (eq-eqb _ _ h)

-- the parent's number of a later node fits exactly if it is below its own
pub fits_later : (q p : ℕ) → (q ≡ 0 → ⊥) → ltb p q ≡ parent_fits q p
unfolding parent_fits
fits_later q p h = rw (ne_eqb _ _ h)

-- an edge to a child is an edge
pub edge_child : (e : ℕ) → e ≡ child_edge → eqb e child_edge ≡ (eqb e child_edge || eqb e descendant_edge)
edge_child e h = rw (eq-eqb _ _ h)

-- a number other than the edge to a child is an edge exactly if it is that to a descendant
pub edge_other : (e : ℕ) → (e ≡ child_edge → ⊥) → eqb e descendant_edge ≡ (eqb e child_edge || eqb e descendant_edge)
edge_other e h = rw (ne_eqb _ _ h)

-- the check of the fourth byte of node q
end_check : List ℕ → ℕ → Option Refusal
end_check bytes q = check (eqb (get_or bytes (q * node_size + 3) 0) 0) twig_end q

-- node q checked: its tests in turn
module _ (bytes : List ℕ) (q : ℕ) {node : Node} (read : node ≡ node_of (node_at (read_twig bytes) q)) {fit : Bool} (fits : fit ≡ parent_fits q node.parent) where
  -- of the checks of node q that of the parent comes first
  parent_next : node_check_at bytes q ≡
      first (check fit twig_parent q ∷ check (eqb node.edge child_edge || eqb node.edge descendant_edge) twig_edge q ∷ name_check node.name q ∷ end_check bytes q ∷ [])
  unfolding node_check_at node_check end_check
  parent_next = rw (fits, read)

  -- a parent that does not fit is refused by 5
  pub parent_refused : not fit ≡ true → {v : Verdict} → v ≡ verdict_of (refuse twig_parent q) → v ≡ verdict_of (node_check_at bytes q)
  unfolding check first
  parent_refused e f = f ∙ rw (parent_next, not-true fit e)

  module _ (fitting : not fit ≡ false) {edge : Bool} (edges : edge ≡ (eqb node.edge child_edge || eqb node.edge descendant_edge)) where
    -- where the parent fits, the check of the edge comes next
    edge_next : node_check_at bytes q ≡ first (check edge twig_edge q ∷ name_check node.name q ∷ end_check bytes q ∷ [])
    unfolding check first
    edge_next = parent_next ∙ rw (not-false fit fitting, edges)

    -- a number that is no edge is refused by 6
    pub edge_refused : not edge ≡ true → {v : Verdict} → v ≡ verdict_of (refuse twig_edge q) → v ≡ verdict_of (node_check_at bytes q)
    unfolding check first
    edge_refused e f = f ∙ rw (edge_next, not-true edge e)

    module _ (edged : not edge ≡ false) {name : Bool} (names : name ≡ (is_name node.name || eqb node.name any_name)) where
      -- where the edge passes, the check of the name comes next
      name_next : node_check_at bytes q ≡ first (check name name_asked q ∷ end_check bytes q ∷ [])
      unfolding check first name_check
      name_next = edge_next ∙ rw (not-false edge edged, names)

      -- a name that may not be asked for is refused by 7
      pub name_refused : not name ≡ true → {v : Verdict} → v ≡ verdict_of (refuse name_asked q) → v ≡ verdict_of (node_check_at bytes q)
      unfolding check first
      name_refused e f = f ∙ rw (name_next, not-true name e)

      module _ (named : not name ≡ false) where
        -- a fourth byte that is not 0 is refused by 8
        pub end_refused : (get_or bytes (q * node_size + 3) 0 ≡ 0 → ⊥) → {v : Verdict} → v ≡ verdict_of (refuse twig_end q) → v ≡ verdict_of (node_check_at bytes q)
        unfolding check first end_check
        end_refused e f = f ∙ rw (name_next, not-false name named, ne_eqb _ _ e)

        -- a node that no test rules out passes
        pub node_passed : get_or bytes (q * node_size + 3) 0 ≡ 0 → verdict.Passed ≡ verdict_of (node_check_at bytes q)
        unfolding check first end_check
        node_passed e = rw (name_next, not-false name named, eq-eqb _ _ e)

-- fewer than four bytes are no node
nodes_short : (i : ℕ) (bytes : List ℕ) → length bytes < node_size → nodes_check i bytes ≡ none
unfolding nodes_check
nodes_short i [] h = refl
nodes_short i (p ∷ []) h = refl
nodes_short i (p ∷ e ∷ []) h = refl
nodes_short i (p ∷ e ∷ n ∷ []) h = refl
nodes_short i (p ∷ e ∷ n ∷ z ∷ bytes) h = absurd (omega arith)

-- the nodes from number q on are node q and those from the next on
nodes_from : (i q : ℕ) (bytes : List ℕ) → q * node_size + 3 < length bytes → let n = node_at (read_twig bytes) q in
    nodes_check i (drop (q * node_size) bytes) ≡
    first (node_check i n.parent n.edge n.name (get_or bytes (q * node_size + 3) 0) ∷ nodes_check (suc i) (drop (suc q * node_size) bytes) ∷ [])
unfolding nodes_check read_twig
nodes_from i q [] k = absurd (omega arith)
nodes_from i q (p ∷ []) k = absurd (omega arith)
nodes_from i q (p ∷ e ∷ []) k = absurd (omega arith)
nodes_from i q (p ∷ e ∷ n ∷ []) k = absurd (omega arith)
nodes_from i zero (p ∷ e ∷ n ∷ z ∷ bytes) k = refl
nodes_from i (suc q) (p ∷ e ∷ n ∷ z ∷ bytes) k = simp (unary_clauses, suc-mul) (simp (unary_clauses, suc-mul) at (nodes_from i q bytes (omega arith)))

-- the nodes before q passed, so the rest of the twig decides
abbrev pub Checked : List ℕ → ℕ → Type 0
Checked bytes q = nodes_check 0 bytes ≡ nodes_check q (drop (q * node_size) bytes)

module _ (bytes : List ℕ) {b : Bool} (is : b ≡ (ltb 0 (length bytes) && leb (length bytes) max_twig && eqb (length bytes % node_size) 0)) where
  -- a length that is no twig's is refused by 4
  pub length_refused : not b ≡ true → {v : Verdict} → v ≡ verdict_of (refuse twig_length 0) → v ≡ verdict_of (twig_check bytes)
  unfolding twig_check check first
  length_refused e f = f ∙ rw (← is, not-true b e)

  module _ (long : not b ≡ false) (q : ℕ) (inv : Checked bytes q) where
    -- the nodes decide about a twig of a good length
    by_nodes : twig_check bytes ≡ nodes_check q (drop (q * node_size) bytes)
    unfolding twig_check check
    by_nodes = first_next _ _ (rw (← is, not-false b long)) ∙ inv

    -- where every node passed, the twig passes
    pub twig_passed : {n : ℕ} → n ≡ length (read_twig bytes) → n ≤ q → verdict.Passed ≡ verdict_of (twig_check bytes)
    twig_passed e h = ap verdict_of (sym (by_nodes ∙ nodes_short q _ (omega (arith, length-drop (q * node_size) bytes, length-read_twig bytes))))

    -- where node q is refused, the twig has that refusal
    pub node_refused : {n : ℕ} → n ≡ length (read_twig bytes) → q < n → {v : Verdict} {x : declared.Refusal} → v ≡ verdict.Refused x → v ≡ verdict_of (node_check_at bytes q) →
        v ≡ verdict_of (twig_check bytes)
    unfolding node_check_at
    node_refused e h refused checked =
        let (r, ruled) = refused_some (node_check_at bytes q) checked refused in
        checked ∙ ap verdict_of (ruled ∙ sym (by_nodes ∙ nodes_from q q bytes (omega (arith, length-read_twig bytes)) ∙ first_here r _ _ ruled))

-- where node q passed, the next one decides
pub checked_on : (bytes : List ℕ) (q : ℕ) → Checked bytes q → {n : ℕ} → n ≡ length (read_twig bytes) → q < n →
    {v : Verdict} → v ≡ verdict.Passed → v ≡ verdict_of (node_check_at bytes q) → Checked bytes (q + 1)
unfolding node_check_at
checked_on bytes q inv e h passed checked =
    inv ∙ nodes_from q q bytes (omega (arith, length-read_twig bytes)) ∙ first_next _ _ (passed_none (node_check_at bytes q) checked passed) ∙
    rw add-one
