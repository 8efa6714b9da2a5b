-- New store, entry and deletion: what each answers, and every word that it leaves.
use Rattle.std.specs.Prelude.{cond, ◌&&◌, ◌||◌, not, List, [], ◌∷◌, ◌++◌, map, ℕ, ◌+◌, ◌-◌, ◌*◌, length, replicate, ltb, leb}
use Rattle.std.proofs.Math.Option.{Option, none, some}
use Rattle.basics.specs.Basics.{elim?, keep, over}
use Rattle.basics.specs.Limits.{max_component, max_depth, max_records, label_size, record_size}
use Rattle.basics.specs.Refusals.{Refusal, refuse, check, first, no_record, not_in_clue, too_deep, no_number, no_space, root_stays, store_size}
use Rattle.naming.specs.Names.{Table, Clues, clues_of, place_in, table_check, root_check}
use Rattle.labelling.specs.Numbers.{number}
use Rattle.labelling.specs.Labels.{Label, before, within, same, label_of, label_words, label_check}
use Rattle.storage.specs.Store.{Element, element_words, store_words, elements, find, element_at, is_slice, size_check, sound_check}

-- what a call answers and leaves: the refusal, the count, the label of an entry (no words for another call), the slice
pub record Answer : Type 0 where
  pub refusal : Option Refusal
  pub count : ℕ
  pub label : List ℕ
  pub slice : List ℕ

-- a new store is refused by 18, 21, in this order
unfoldable pub new_store_refusal : ℕ → ℕ → Option Refusal
new_store_refusal len root = first (check (is_slice len) store_size 0 ∷ root_check root ∷ [])

-- a new store writes record 0 from a name and two payload words, f = 0
unfoldable pub new_store : List ℕ → ℕ → ℕ → ℕ → Answer
new_store ws root p0 p1 =
    elim? (new_store_refusal (length ws) root)
    (record {
      refusal = none;
      count = 1;
      label = [];
      slice = over (element_words (record { label = []; name = root; next = 0; payload0 = p0; payload1 = p1 })) ws;
    })
    (λ r. record { refusal = some r; count = 0; label = []; slice = ws })

-- What an entry asks of its parent: 9 for no such record, 10 for a name not in the parent's clue,
-- 11 for a parent at depth 15, 12 where no number is left.
unfoldable pub parent_check : Clues → Option Element → ℕ → Option Refusal
parent_check cl none name = refuse no_record 0
parent_check cl (some p) name =
    elim? (place_in name (cl p.name)) (refuse not_in_clue 0) (λ k.
    first
    (check (ltb (length p.label) max_depth) too_deep 0
    ∷ check (leb (number (length (cl p.name)) k p.next) max_component) no_number 0
    ∷ []))

-- the check for a free record, which refuses by 13
unfoldable pub space_check : ℕ → ℕ → Option Refusal
space_check len count = check (leb (record_size * (count + 1)) len && ltb count max_records) no_space 0

-- an entry is refused by 22, 18, 19, 23 to 25, 15, 9, 10, 11, 12, 13, in this order
unfoldable pub entry_refusal : Table → List ℕ → ℕ → List ℕ → ℕ → Option Refusal
entry_refusal rows ws count lw name =
    first
    (table_check rows
    ∷ size_check (length ws) count
    ∷ sound_check (clues_of rows) count ws
    ∷ label_check lw
    ∷ parent_check (clues_of rows) (find (label_of lw) (elements count ws)) name
    ∷ space_check (length ws) count
    ∷ [])

-- the number that an entry gives below a parent
unfoldable pub given : Clues → Element → ℕ → ℕ
given cl p name = elim? (place_in name (cl p.name)) 0 (λ k. number (length (cl p.name)) k p.next)

-- an element, its next number moved to f where it has the label l, and else as it was
unfoldable pub raised : Label → ℕ → Element → Element
raised l f e = record {
  label = e.label;
  name = e.name;
  next = cond (same e.label l) f e.next;
  payload0 = e.payload0;
  payload1 = e.payload1;
}

-- a new element placed after its parent's whole subtree, later elements moved up
unfoldable pub placed : Label → Element → List Element → List Element
placed l new [] = new ∷ []
placed l new (e ∷ es) =
    cond (within l e.label || before e.label l) (e ∷ placed l new es) (new ∷ (e ∷ es))

-- the elements after an entry below the parent p
unfoldable pub entered : Clues → List Element → Element → ℕ → ℕ → ℕ → List Element
entered cl es p name p0 p1 =
    placed p.label
    (record { label = p.label ++ (given cl p name ∷ []); name = name; next = 0; payload0 = p0; payload1 = p1 })
    (map (raised p.label (given cl p name + 1)) es)

-- an entry answers the new count and the new label; a refusal the count it was given and sixteen zeros
unfoldable pub enter : Table → List ℕ → ℕ → List ℕ → ℕ → ℕ → ℕ → Answer
enter rows ws count lw name p0 p1 =
    let es = elements count ws in
    let p = element_at (label_of lw) es in
    elim? (entry_refusal rows ws count lw name)
    (record {
      refusal = none;
      count = count + 1;
      label = label_words (p.label ++ (given (clues_of rows) p name ∷ []));
      slice = over (store_words (entered (clues_of rows) es p name p0 p1)) ws;
    })
    (λ r. record { refusal = some r; count = count; label = replicate label_size 0; slice = ws })

-- the check that a label isn't the root's, which refuses by 14
unfoldable pub root_stays_check : Label → Option Refusal
root_stays_check l = check (ltb 0 (length l)) root_stays 0

-- the check that a record was found, which refuses by 9
unfoldable pub found_check : {A : Type 0} → Option A → Option Refusal
found_check none = refuse no_record 0
found_check (some a) = none

-- a deletion is refused by 22, 18, 19, 23 to 25, 15, 14, 9, in this order
unfoldable pub deletion_refusal : Table → List ℕ → ℕ → List ℕ → Option Refusal
deletion_refusal rows ws count lw =
    first
    (table_check rows
    ∷ size_check (length ws) count
    ∷ sound_check (clues_of rows) count ws
    ∷ label_check lw
    ∷ root_stays_check (label_of lw)
    ∷ found_check (find (label_of lw) (elements count ws))
    ∷ [])

-- the elements that are neither the one with a label nor below it
unfoldable pub without : Label → List Element → List Element
without l = keep (λ e. not (within l e.label))

-- a deletion closes the gap, fills the freed records with zeros and answers the new count;
-- a refusal answers the count it was given
unfoldable pub delete : Table → List ℕ → ℕ → List ℕ → Answer
delete rows ws count lw =
    let left = without (label_of lw) (elements count ws) in
    elim? (deletion_refusal rows ws count lw)
    (record {
      refusal = none;
      count = length left;
      label = [];
      slice = over (store_words left ++ replicate (record_size * (count - length left)) 0) ws;
    })
    (λ r. record { refusal = some r; count = count; label = []; slice = ws })
