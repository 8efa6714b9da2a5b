-- The rules of a sound record, as one pass over a store tests them.
use Rattle.std.specs.Prelude.{Bool, true, cond, ◌&&◌, ◌||◌, not, List, ◌≡◌, ℕ, zero, suc, ◌+◌, ◌*◌, ◌<◌, ◌≤◌, length, get_or, ltb, leb, eqb}
use Rattle.std.proofs.Math.Option.{Option, none}
use Rattle.basics.specs.Basics.{last}
use Rattle.basics.specs.Limits.{max_depth, record_size}
use Rattle.naming.specs.Names.{Clues, is_name}
use Rattle.labelling.specs.Labels.{label_of, before, shared}
use Rattle.storage.specs.Store.{Element, Rule, read_element, test, laid_out, leads, closed, order_rule, parent_rule, name_rule, last_rule, next_rule}
use Rattle.records.specs.Records.{record_at}

-- the test of a depth: at most 15, and 0 for record 0 only
unfoldable pub depth_fits : ℕ → ℕ → Bool
depth_fits r depth = leb depth max_depth && cond (eqb r 0) (eqb depth 0) (ltb 0 depth)

-- the test of a next number: 0 if the clue, of n names, is empty or the depth is 15
unfoldable pub closed_by : ℕ → ℕ → ℕ → Bool
closed_by n depth next = not (eqb n 0 || eqb depth max_depth) || eqb next 0

-- the first rule behind its layout that record 0 breaks
unfoldable pub broken_root : Clues → Element → Option Rule
broken_root cl e = test (is_name e.name) name_rule (test (closed cl e) next_rule none)

-- the first rule behind its layout that a later record breaks, after the previous record;
-- the parent, if it stands earlier, is known from the previous record
unfoldable pub broken_below : Clues → Element → Element → Element → Option Rule
broken_below cl previous parent e =
    test (before previous.label e.label) order_rule
    (test (eqb (shared previous.label e.label + 1) (length e.label)) parent_rule
    (test (leads (cl parent.name) (last e.label) e.name) name_rule
    (test (ltb (last e.label) parent.next) last_rule (test (closed cl e) next_rule none))))

-- the first rule behind its layout that record r of a slice breaks,
-- where it stands below the record with the number `parent`
unfoldable pub broken_at : Clues → List ℕ → ℕ → ℕ → Option Rule
broken_at cl ws zero parent = broken_root cl (read_element (record_at zero ws))
broken_at cl ws (suc r) parent = broken_below cl (read_element (record_at r ws)) (read_element (record_at parent ws)) (read_element (record_at (suc r) ws))

-- how many components record r of a slice shares with the previous one: none for record 0
unfoldable pub shared_before : List ℕ → ℕ → ℕ
shared_before ws zero = 0
shared_before ws (suc r) = shared (label_of (record_at r ws)) (label_of (record_at (suc r) ws))

-- record r is laid out as a label of a depth that fits it
abbrev pub Laid : List ℕ → ℕ → Type 0
Laid ws r = (depth_fits r (get_or ws (r * record_size) 0) ≡ true) × (laid_out (record_at r ws) ≡ true)

-- record r can be tested behind its layout: the records before it have labels, and it would stand below one of them
pub record Ready (ws : List ℕ) (r parent : ℕ) : Type 0 where
  pub room : r * record_size + record_size ≤ length ws
  pub laid : Laid ws r
  pub earlier : parent ≤ r
  pub shallow : (q : ℕ) → q < r → get_or ws (q * record_size) 0 ≤ max_depth
