-- Rows and tables copied place by place: what is written so far, and a row found in a table's bytes.
use Prim.Native.Nat.{ℕ, ◌+◌, ◌-◌, ◌*◌, ◌<◌, ◌≤◌}
use mathlib.Core.Path.{◌≡◌, sym, ap, ◌∙◌}
use mathlib.Core.List.{List, [], ◌++◌, append-nil}
use native.Mathlib.Omega.{arith}
use native.Mathlib.Nat.{zero-add}
use native.Mathlib.Numerals.{add-one}
use lib.ListN.{length, get_or, take, drop, set, replicate, length-map, length-drop, length-replicate, drop_of_length-le}
use lib.Seq.{paste-suc, take_all, length-take-le}
use Rattle.naming.specs.Names.{Table}
use Rattle.basics.specs.Basics.{up_to}
use Rattle.basics.specs.Limits.{table_size, filler}
use Rattle.basics.proofs.Ranges.{length-up_to, map-up_to}
use Rattle.table_bytes.specs.Rows.{row_in, rows_in}

-- of sixty-four places the first k are copied, the others hold what they held
abbrev pub Copied : {A : Type 0} → List A → A → ℕ → List A → Type 0
Copied s d k e = e ≡ take k s ++ drop k (replicate table_size d)

module _ {A : Type 0} (s : List A) (d : A) {k : ℕ} {e : List A} (copied : Copied s d k e) (size : length s ≡ table_size) where
  -- one more place is copied
  copied_more : k < table_size → (z : A) → Copied s d (k + 1) (set e k (get_or s k z))
  copied_more h z =
      let room : length (replicate table_size d) ≡ table_size = length-replicate table_size d in
      let more = paste-suc (replicate table_size d) 0 s k z (omega arith) (omega arith) in
      rw (copied, add-one) (simp zero-add at more)

  -- where sixty-four places are copied, the copy is whole
  copied_all : table_size ≤ k → e ≡ s
  copied_all h =
      let room : length (replicate table_size d) ≡ table_size = length-replicate table_size d in
      copied ∙ ap (λ l. take k s ++ l) (drop_of_length-le (replicate table_size d) {i = k} (omega arith)) ∙ append-nil (take k s) ∙ take_all k s (omega arith)

module _ (bytes : List ℕ) {k : ℕ} {row : List ℕ} (copied : Copied bytes filler k row) (size : length bytes ≡ table_size) where
  -- one more byte of a row is copied
  pub row_more : k < length bytes → Copied bytes filler (k + 1) (set row k (get_or bytes k 0))
  row_more h = copied_more bytes filler copied size (omega arith) 0

  -- past its last byte the whole row is copied
  pub row_all : length bytes ≤ k → row ≡ bytes
  row_all h = let whole : table_size ≤ k = omega arith in copied_all bytes filler copied size whole

-- the bytes of a table hold sixty-four rows
length-rows_in : (bytes : List ℕ) → length (rows_in bytes) ≡ table_size
unfolding rows_in
length-rows_in bytes = length-map (up_to table_size) (row_in bytes) ∙ length-up_to table_size

-- the part of the bytes that is row p has sixty-four bytes
pub row_long : (bytes : List ℕ) {p : ℕ} → length bytes ≡ table_size * table_size → p < table_size →
    length (take (p * table_size + table_size - p * table_size) (drop (p * table_size) bytes)) ≡ table_size
row_long bytes {p} size h =
    let z : p * table_size + table_size - p * table_size ≡ table_size = omega arith in
    let long : table_size ≤ length (drop (p * table_size) bytes) = omega (arith, length-drop (p * table_size) bytes) in
    ap (λ n. length (take n (drop (p * table_size) bytes))) z ∙ length-take-le table_size (drop (p * table_size) bytes) long

module _ (bytes : List ℕ) {p : ℕ} {table : Table} (copied : Copied (rows_in bytes) (replicate table_size filler) p table) where
  -- one more row is copied, which is a part of the bytes
  pub rows_more : p < table_size → {row : List ℕ} → row ≡ take (p * table_size + table_size - p * table_size) (drop (p * table_size) bytes) →
      Copied (rows_in bytes) (replicate table_size filler) (p + 1) (set table p row)
  unfolding rows_in row_in
  rows_more h {row} e =
      let z : p * table_size + table_size - p * table_size ≡ table_size = omega arith in
      let is : get_or (rows_in bytes) p [] ≡ row = map-up_to (row_in bytes) [] table_size p h ∙ sym (e ∙ ap (λ n. take n (drop (p * table_size) bytes)) z) in
      ap (λ r. set table p r) (sym is) ∙ copied_more (rows_in bytes) (replicate table_size filler) copied (length-rows_in bytes) h []

  -- past the last row the whole table is copied
  pub rows_all : table_size ≤ p → table ≡ rows_in bytes
  rows_all h = copied_all (rows_in bytes) (replicate table_size filler) copied (length-rows_in bytes) h
