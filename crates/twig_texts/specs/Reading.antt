-- Reading a twig's text: byte by byte, refused by 27 at the first byte that cannot go on, by 28 where a ninth name begins.
use Rattle.std.specs.Prelude.{Bool, true, false, cond, ◌&&◌, List, [], ◌∷◌, map, reverse, ℕ, suc, ◌+◌, ◌*◌, ◌-◌, length, replicate, ltb, leb, eqb}
use Rattle.std.proofs.Math.Option.{Option, none, some}
use Rattle.basics.specs.Basics.{elim?, joined, over}
use Rattle.basics.specs.Limits.{max_name, any_name, no_parent, node_size, max_twig}
use Rattle.basics.specs.Refusals.{Refusal, Reply, value, refused, bad_text, ninth_name}
use Rattle.basics.specs.Texts.{zero_digit}
use Rattle.patterns.specs.Twigs.{Twig, child_edge, descendant_edge}
use Rattle.twig_texts.specs.Forms.{slash, star, opening, closing}

-- what stands before the next byte
pub data Phase : Type 0 where
  -- nothing, or the opening bracket of a branch: a step is due
  step_due : Phase
  -- one slash
  one_slash : Phase
  -- two slashes
  two_slashes : Phase
  -- a name or a branch; a digit may follow where the name is one digit above 0, which stands here, and otherwise 0
  behind : (digit : ℕ) → Phase

-- how far a text is read: the node that the next step stands below, the nodes with an open bracket, innermost first,
-- and the nodes of the names met, newest first
pub record State : Type 0 where
  pub phase : Phase
  pub parent : ℕ
  pub brackets : List ℕ
  pub nodes : Twig

-- nothing is read
unfoldable pub start : State
start = record { phase = step_due; parent = no_parent; brackets = []; nodes = [] }

-- the same, before another byte
unfoldable pub moved : Phase → State → State
moved phase st = record { phase = phase; parent = st.parent; brackets = st.brackets; nodes = st.nodes }

-- a name is met: its node is the next in number, and what follows stands below it
unfoldable pub named : ℕ → ℕ → ℕ → State → State
named edge name digit st = record {
  phase = behind digit;
  parent = length st.nodes;
  brackets = st.brackets;
  nodes = record { parent = st.parent; edge = edge; name = name } ∷ st.nodes;
}

-- the newest node with another name
unfoldable pub renamed : ℕ → Twig → Twig
renamed name [] = []
renamed name (n ∷ t) = record { parent = n.parent; edge = n.edge; name = name } ∷ t

-- the name met last has a second digit
unfoldable pub lengthened : ℕ → State → State
lengthened name st = record { phase = behind 0; parent = st.parent; brackets = st.brackets; nodes = renamed name st.nodes }

-- a branch begins
unfoldable pub opened : State → State
opened st = record { phase = step_due; parent = st.parent; brackets = st.parent ∷ st.brackets; nodes = st.nodes }

-- a branch ends: what follows stands below the node whose bracket was open
unfoldable pub closed : List ℕ → State → Option State
closed [] st = none
closed (p ∷ brackets) st = some (record { phase = behind 0; parent = p; brackets = brackets; nodes = st.nodes })

-- whether a byte is a decimal digit
unfoldable pub is_digit : ℕ → Bool
is_digit c = leb zero_digit c && leb c (zero_digit + 9)

-- the first byte of a name
unfoldable pub name_begun : ℕ → State → ℕ → Option State
name_begun edge st c =
    cond (eqb c star) (some (named edge any_name 0 st))
    (cond (is_digit c) (some (named edge (c - zero_digit) (c - zero_digit) st)) none)

-- a byte behind a name or a branch: a slash, a bracket, or the second digit of a name that is at most 63
unfoldable pub went_on : ℕ → State → ℕ → Option State
went_on digit st c =
    cond (eqb c slash) (some (moved one_slash st))
    (cond (eqb c opening) (some (opened st))
    (cond (eqb c closing) (closed st.brackets st)
    (cond (ltb 0 digit && (is_digit c && leb (10 * digit + (c - zero_digit)) max_name)) (some (lengthened (10 * digit + (c - zero_digit)) st)) none)))

-- one byte read in a phase: none where it cannot go on
unfoldable pub read_by : Phase → State → ℕ → Option State
read_by step_due st c = cond (eqb c slash) (some (moved one_slash st)) none
read_by one_slash st c = cond (eqb c slash) (some (moved two_slashes st)) (name_begun child_edge st c)
read_by two_slashes st c = name_begun descendant_edge st c
read_by (behind digit) st c = went_on digit st c

-- one byte read
unfoldable pub read_byte : State → ℕ → Option State
read_byte st c = read_by st.phase st c

-- whether a text may end in a phase, some brackets being open
unfoldable pub ends_in : Phase → List ℕ → Bool
ends_in step_due brackets = false
ends_in one_slash brackets = false
ends_in two_slashes brackets = false
ends_in (behind digit) [] = true
ends_in (behind digit) (p ∷ brackets) = false

-- whether nodes are few enough for a twig
unfoldable pub few_enough : Twig → Bool
few_enough t = leb (node_size * length t) max_twig

-- the twig of a text read from place i on: 27 where it cannot go on or ends early, 28 where a ninth name begins
unfoldable pub read_from : ℕ → State → List ℕ → Reply Twig
read_from i st [] = cond (ends_in st.phase st.brackets) (value (reverse st.nodes)) (refused (record { number = bad_text; place = i }))
read_from i st (c ∷ s) =
    elim? (read_byte st c) (refused (record { number = bad_text; place = i }))
    (λ then. cond (few_enough then.nodes) (read_from (suc i) then s) (refused (record { number = ninth_name; place = i })))

-- the twig of a text, or its refusal
unfoldable pub read_text : List ℕ → Reply Twig
read_text s = read_from 0 start s

-- the bytes of a twig
unfoldable pub twig_bytes : Twig → List ℕ
twig_bytes t = joined (map (λ n. n.parent ∷ n.edge ∷ n.name ∷ 0 ∷ []) t)

-- what reading a text answers: the refusal, 32 bytes, and how many of them are used, the rest 0; all 0 in a refusal
pub record TextRead : Type 0 where
  pub refusal : Option Refusal
  pub used : ℕ
  pub bytes : List ℕ

-- the answer of reading, by the twig or the refusal
unfoldable pub read_as : Reply Twig → TextRead
read_as (value t) = record { refusal = none; used = length (twig_bytes t); bytes = over (twig_bytes t) (replicate max_twig 0) }
read_as (refused r) = record { refusal = some r; used = 0; bytes = replicate max_twig 0 }

-- the call that reads a text
unfoldable pub read_call : List ℕ → TextRead
read_call s = read_as (read_text s)
