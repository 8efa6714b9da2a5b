-- Records laid out in words and read back.
use mathlib.Core.Path.{◌≡◌, refl, sym, ap, ap₂, ◌∙◌}
use mathlib.Core.List.{List, [], ◌∷◌, ◌++◌, map, append_cancel_left}
use Prim.Native.Nat.{ℕ, suc, ◌+◌, ◌*◌, ◌≤◌}
use native.Mathlib.Omega.{arith}
use lib.ListN.{length, get_or, take, drop, length-append}
use lib.Seq.{take_at, get_or-append-add, take-add, take-take}
use Rattle.basics.specs.Basics.{◌∈◌, joined}
use Rattle.basics.specs.Limits.{max_depth, label_size, record_size}
use Rattle.labelling.specs.Labels.{Label, label_words}
use Rattle.storage.specs.Store.{Element, element_words, store_words, read_element, records, elements}
use Rattle.basics.proofs.Lists.{here, there, length_joined}
use Rattle.labelling.proofs.LabelWords.{length-label_words, label_of_words}

-- the record of an element has twenty words
pub length-element_words : (e : Element) → length e.label ≤ max_depth → length (element_words e) ≡ record_size
unfolding element_words
length-element_words e h = length-append (label_words e.label) (e.name ∷ e.next ∷ e.payload0 ∷ e.payload1 ∷ []) ∙ ap (λ n. n + 4)
    (length-label_words e.label h)

-- the four words behind a label's are read as they stand
field_read : (l : Label) (t : List ℕ) → length l ≤ max_depth → (i : ℕ) → get_or (label_words l ++ t) (label_size + i) 0 ≡ get_or t i 0
field_read l t h i = rw (← length-label_words l h) (get_or-append-add (label_words l) t i 0)

-- a record reads as the element laid out in it
pub read_element_lem : (e : Element) → length e.label ≤ max_depth → read_element (element_words e) ≡ e
unfolding read_element element_words
read_element_lem e h = λ i. record { label = label_of_words e.label tail i; name = at 0 i; next = at 1 i; payload0 = at 2 i; payload1 = at 3 i }
  where
    tail : List ℕ
    tail = e.name ∷ e.next ∷ e.payload0 ∷ e.payload1 ∷ []

    at : (i : ℕ) → get_or (label_words e.label ++ tail) (label_size + i) 0 ≡ get_or tail i 0
    at = field_read e.label tail h

-- every label of a list of elements fits a record: it has at most 15 components
abbrev pub Fit : List Element → Type 0
Fit es = (e : Element) → e ∈ es → length e.label ≤ max_depth

-- the records of elements have twenty words for each
pub length-store_words : (es : List Element) → Fit es → length (store_words es) ≡ record_size * length es
unfolding store_words
length-store_words es h = length_joined element_words record_size es (λ e m. length-element_words e (h e m))

-- words that begin with the records of some elements are read as these records
pub records_store_words : (es : List Element) → Fit es → (ws : List ℕ) → take (record_size * length es) ws ≡ store_words es →
    records (length es) ws ≡ map element_words es
unfolding store_words joined records
records_store_words [] h ws e = refl
records_store_words (x ∷ es) h ws e =
    let size = length-element_words x (h x (here refl)) in
    let d : record_size * suc (length es) ≡ record_size + record_size * length es = omega arith in
    let e' : take (record_size + record_size * length es) ws ≡ element_words x ++ store_words es = ap (λ n. take n ws) (sym d) ∙ e in
    let a : take record_size ws ≡ element_words x =
    sym (take-take record_size (record_size + record_size * length es) ws (omega arith)) ∙ ap (take record_size) e' ∙ take_at (element_words x) (store_words es) record_size size in
    let f : element_words x ++ take (record_size * length es) (drop record_size ws) ≡ element_words x ++ store_words es =
    ap (λ t. t ++ take (record_size * length es) (drop record_size ws)) (sym a) ∙ sym (take-add record_size (record_size * length es) ws) ∙ e' in
    ap₂ ◌∷◌ a (records_store_words es (λ y m. h y (there m)) (drop record_size ws) (append_cancel_left (element_words x) _ _ f))

-- the records of elements are read as these elements
read_back : (es : List Element) → Fit es → map read_element (map element_words es) ≡ es
read_back [] h = refl
read_back (e ∷ es) h = ap₂ ◌∷◌ (read_element_lem e (h e (here refl))) (read_back es (λ x m. h x (there m)))

-- words that begin with the records of some elements are read as these elements
pub elements_store_words : (es : List Element) → Fit es → (ws : List ℕ) → take (record_size * length es) ws ≡ store_words es → elements (length es) ws ≡ es
unfolding elements
elements_store_words es h ws e = ap (map read_element) (records_store_words es h ws e) ∙ read_back es h
