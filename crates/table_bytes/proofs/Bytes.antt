-- A table as bytes: rows written one after the other, and bytes that are no table.
use Prim.Native.Nat.{ℕ, zero, suc, ◌+◌, ◌*◌, ◌<◌, ◌≤◌}
use mathlib.Core.Path.{◌≡◌, refl, sym, ap, ◌∙◌}
use mathlib.Core.Bool.{cond}
use mathlib.Core.List.{List, [], ◌∷◌, ◌++◌, append-nil, append_assoc}
use native.Mathlib.Omega.{arith}
use native.Mathlib.Numerals.{add-one}
use lib.Dec.{eqb}
use lib.ListN.{length, get_or, take, drop, set, length-append, drop_of_length-le}
use lib.Seq.{paste, paste-zero, paste-suc, take_all}
use Rattle.basics.specs.Basics.{joined, over, all}
use Rattle.basics.specs.Limits.{table_size}
use Rattle.basics.specs.Refusals.{refuse, check, bad_table}
use Rattle.naming.specs.Names.{Table, table_check, good_row, names_of, is_name}
use Rattle.basics.proofs.Tests.{is_true, is_false, eqb_alike}
use Rattle.words.specs.Writing.{written}
use Rattle.words.proofs.Writing.{written_over, written_none, written_after, written_paste}
use Rattle.table_bytes.specs.Rows.{rows_in, table_in, torn_rows}

module _ (bytes : List ℕ) where
  -- bytes of another length are taken as a table that 22 rules out
  pub table_torn : (length bytes ≡ table_size * table_size → ⊥) → torn_rows ≡ table_in bytes
  unfolding table_in
  table_torn h = sym (ap (λ b. cond b (rows_in bytes) torn_rows) (is_false (eqb (length bytes) (table_size * table_size)) (λ t. h ((eqb_alike (length bytes) (table_size * table_size)).0 t))))

  -- bytes of the right length are the table of their rows
  pub table_whole : length bytes ≡ table_size * table_size → {t : Table} → t ≡ rows_in bytes → t ≡ table_in bytes
  unfolding table_in
  table_whole h e = e ∙ sym (ap (λ b. cond b (rows_in bytes) torn_rows) (is_true (eqb (length bytes) (table_size * table_size)) ((eqb_alike (length bytes) (table_size * table_size)).1 h)))

-- a table of numbers that are no names is refused by 22
torn_refused : table_check torn_rows ≡ refuse bad_table 0
unfolding table_check all good_row names_of is_name check
torn_refused = refl

-- bytes of another length are refused by 22
pub other_length_refused : (bytes : List ℕ) → (length bytes ≡ table_size * table_size → ⊥) → table_check (table_in bytes) ≡ refuse bad_table 0
other_length_refused bytes h = ap table_check (sym (table_torn bytes h)) ∙ torn_refused

module _ (row bytes : List ℕ) (at : ℕ) (size : length row ≡ table_size) (room : at + table_size ≤ length bytes) where
  -- at first no byte of the row is written
  pub row_none : bytes ≡ paste bytes at row 0
  row_none = paste-zero bytes at row

  module _ {now : List ℕ} {k : ℕ} (is : now ≡ paste bytes at row k) where
    -- one more byte of the row is written
    pub row_byte : k < length row → set now (at + k) (get_or row k 0) ≡ paste bytes at row (k + 1)
    row_byte h = rw (is, add-one k) (paste-suc bytes at row k 0 (omega arith) (omega arith))

    -- where the index has reached the row's end, all its bytes are written
    pub row_bytes : k ≤ length row → length row ≤ k → now ≡ written at row bytes
    row_bytes h m = is ∙ written_paste at row bytes k (omega arith)

-- one row more is joined
joined_suc : (rows : Table) (p : ℕ) → p < length rows → joined (take (suc p) rows) ≡ joined (take p rows) ++ get_or rows p []
unfolding joined
joined_suc [] p h = absurd (omega arith)
joined_suc (r ∷ rows) zero h = append-nil r
joined_suc (r ∷ rows) (suc p) h = ap (λ l. r ++ l) (joined_suc rows p (omega arith)) ∙ sym (append_assoc r (joined (take p rows)) (get_or rows p []))

-- one row more is joined, where its number is written p + 1
joined_more : (rows : Table) (p : ℕ) → p < length rows → joined (take (p + 1) rows) ≡ joined (take p rows) ++ get_or rows p []
joined_more rows p h = rw add-one (joined_suc rows p h)

-- the first p of sixty-four rows are written
pub record Put (rows : Table) (bytes : List ℕ) (p : ℕ) (now : List ℕ) : Type 0 where
  pub long : length (joined (take p rows)) ≡ p * table_size
  pub put : now ≡ written 0 (joined (take p rows)) bytes

module _ (rows : Table) (bytes : List ℕ) (many : length rows ≡ table_size) (room : length bytes ≡ table_size * table_size) where
  -- at first no row is written
  pub rows_none : Put rows bytes 0 bytes
  unfolding joined
  rows_none = record { long = refl; put = sym (written_none 0 bytes) }

  module _ {now : List ℕ} {p : ℕ} (so : Put rows bytes p now) where
    -- one more row is written
    pub rows_put : p < length rows → {row left : List ℕ} → row ≡ get_or rows p [] → length row ≡ table_size → left ≡ written (p * table_size) row now → Put rows bytes (p + 1) left
    rows_put h {row} {left} is size e =
        let more : joined (take (p + 1) rows) ≡ joined (take p rows) ++ row = joined_more rows p h ∙ ap (λ r. joined (take p rows) ++ r) (sym is) in
        record {
          long = ap length more ∙ omega (arith, length-append (joined (take p rows)) row, so.long);
          put =
              e ∙ ap (λ n. written n row now) (let z : p * table_size ≡ 0 + length (joined (take p rows)) = omega (arith, so.long) in z)
              ∙ ap (λ t. written (0 + length (joined (take p rows))) row t) so.put
              ∙ written_after 0 (joined (take p rows)) row bytes (omega (arith, so.long))
              ∙ sym (ap (λ l. written 0 l bytes) more);
        }

    -- past the last row the whole table is written
    pub rows_done : p ≤ length rows → length rows ≤ p → {table : Table} → rows ≡ table → now ≡ joined table
    unfolding over
    rows_done h k same =
        let all : joined (take p rows) ≡ joined rows = ap joined (take_all p rows k) in
        let none_left : drop (length (joined (take p rows))) bytes ≡ [] = drop_of_length-le bytes {i = length (joined (take p rows))} (omega (arith, so.long)) in
        so.put ∙ written_over (joined (take p rows)) bytes ∙ ap (λ l. joined (take p rows) ++ l) none_left ∙ append-nil (joined (take p rows)) ∙ all ∙ ap joined same
