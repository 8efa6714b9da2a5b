-- Labels: the components from the root, which has none. In words: the depth, the components, zeros up to sixteen.
use Rattle.std.specs.Prelude.{Bool, cond, ◌&&◌, List, [], ◌∷◌, ◌++◌, ℕ, suc, ◌+◌, ◌-◌, length, get_or, take, drop, replicate, ltb, leb, eqb}
use Rattle.std.proofs.Math.Option.{Option, none, some}
use Rattle.basics.specs.Basics.{elim?, all, last, lex}
use Rattle.basics.specs.Limits.{max_component, max_depth, label_size}
use Rattle.basics.specs.Refusals.{Refusal, refuse, check, first, not_label, empty_clue, Reply, reply}
use Rattle.naming.specs.Names.{Table, Clues, clues_of, led, table_check, root_check}

-- a label is the list of its components
abbrev pub Label : Type 0
Label = List ℕ

-- label order: components compared in turn, a prefix first
unfoldable pub before : Label → Label → Bool
before = lex ltb eqb

-- how many leading components two labels share
unfoldable pub shared : Label → Label → ℕ
shared [] m = 0
shared (x ∷ l) [] = 0
shared (x ∷ l) (y ∷ m) = cond (eqb x y) (suc (shared l m)) 0

-- whether the first label is the second or an ancestor of the second
unfoldable pub within : Label → Label → Bool
within up low = eqb (shared up low) (length up)

-- whether two labels are the same
unfoldable pub same : Label → Label → Bool
same l m = within l m && within m l

-- the label of the parent
unfoldable pub above : Label → Label
above l = take (length l - 1) l

-- The kinship of a first label to a second:
-- 0 same, 1 parent, 2 higher ancestor, 3 child, 4 deeper descendant, 5 none of these.
unfoldable pub kinship : Label → Label → ℕ
kinship l m =
    cond (within l m) (cond (within m l) 0 (cond (eqb (length m) (length l + 1)) 1 2))
    (cond (within m l) (cond (eqb (length l) (length m + 1)) 3 4) 5)

-- whether the first label follows the second: greater in label order
unfoldable pub follows : Label → Label → Bool
follows l m = before m l

-- What a label decodes to: the names from the root,
-- or the component, counted from 1, that stands below a name with an empty clue.
pub data Decoded : Type 0 where
  path : List ℕ → Decoded
  stuck : ℕ → Decoded

-- a name in front of what the rest decodes to
unfoldable pub behind : ℕ → Decoded → Decoded
behind p (path ns) = path (p ∷ ns)
behind p (stuck i) = stuck (suc i)

-- decoding from a root name: each component picks from the clue of the name reached
unfoldable pub decode : Clues → ℕ → Label → Decoded
decode cl p [] = path (p ∷ [])
decode cl p (x ∷ l) = elim? (led (cl p) x) (stuck 1) (λ c. behind p (decode cl c l))

-- the name at the end of a path
unfoldable pub end_of : Decoded → Option ℕ
end_of (path ns) = some (last ns)
end_of (stuck i) = none

-- the name that a label decodes to, at the end of its path
unfoldable pub name_at : Clues → ℕ → Label → Option ℕ
name_at cl root l = end_of (decode cl root l)

-- whether a number is a component: at most 65,534
unfoldable pub is_component : ℕ → Bool
is_component x = leb x max_component

-- the label that words hold
unfoldable pub label_of : List ℕ → Label
label_of ws = take (get_or ws 0 0) (drop 1 ws)

-- the sixteen words of a label: the depth, the components, zeros
unfoldable pub label_words : Label → List ℕ
label_words l = length l ∷ (l ++ replicate (max_depth - length l) 0)

-- whether words are a label: sixteen, depth at most 15, used components at most 65,534, unused ones 0
unfoldable pub is_label : List ℕ → Bool
is_label ws =
    eqb (length ws) label_size && leb (get_or ws 0 0) max_depth && all is_component (label_of ws) && all (λ x. eqb x 0) (drop (suc (get_or ws 0 0)) ws)

-- the check of a label's words, which refuses by 15
unfoldable pub label_check : List ℕ → Option Refusal
label_check ws = check (is_label ws) not_label 0

-- the check of what a label decodes to, which refuses by 16
unfoldable pub path_check : Decoded → Option Refusal
path_check (path ns) = none
path_check (stuck i) = refuse empty_clue i

-- the names of a path in sixteen places, the rest 0; sixteen zeros where there is no path
unfoldable pub names_in : Decoded → List ℕ
names_in (path ns) = ns ++ replicate (label_size - length ns) 0
names_in (stuck i) = replicate label_size 0

-- what decoding answers: the depth + 1 names from the root, the rest of sixteen places 0
pub record Decoding : Type 0 where
  pub refusal : Option Refusal
  pub names : List ℕ

-- decoding is refused by 22, 21, 15, 16, in this order
unfoldable pub decode_refusal : Table → ℕ → List ℕ → Option Refusal
decode_refusal rows root ws =
    first (table_check rows ∷ root_check root ∷ label_check ws ∷ path_check (decode (clues_of rows) root (label_of ws)) ∷ [])

-- decoding a label as a call: a refusal gives no names, all zeros
unfoldable pub decode_call : Table → ℕ → List ℕ → Decoding
decode_call rows root ws =
    elim? (decode_refusal rows root ws) (record { refusal = none; names = names_in (decode (clues_of rows) root (label_of ws)) })
    (λ r. record { refusal = some r; names = replicate label_size 0 })

-- the kinship of two labels in words: 15 is asked of the first label, then of the second
unfoldable pub kinship_call : List ℕ → List ℕ → Reply ℕ
kinship_call a b = reply (first (label_check a ∷ label_check b ∷ [])) (kinship (label_of a) (label_of b))

-- whether the first of two labels in words follows the second: 15 is asked of the first label, then of the second
unfoldable pub follows_call : List ℕ → List ℕ → Reply Bool
follows_call a b = reply (first (label_check a ∷ label_check b ∷ [])) (follows (label_of a) (label_of b))
