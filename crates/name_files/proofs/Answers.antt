-- What is answered of a child-name file and what stands in the table, for each way out of the loop over its pairs.
use mathlib.Core.Path.{◌≡◌, refl, sym, ap, ◌∙◌}
use mathlib.Core.List.{List, []}
use Prim.Native.Nat.{ℕ, ◌+◌, ◌*◌, ◌/◌, ◌%◌, ◌≤◌, ◌<◌}
use native.Mathlib.Omega.{arith}
use lib.ListN.{length, get_or, set, replicate}
use lib.Dec.{leb, eqb, leb→le, le→leb}
use Rattle.std.specs.Prelude.{Some, None}
use Rattle.std.specs.Prelude as std
use Rattle.basics.specs.Limits.{max_name, table_size, filler, max_file}
use Rattle.basics.specs.Refusals.{refuse, file_length, name_too_high, pair_again}
use Rattle.naming.specs.Names.{Table, pairs, pairs_check, file_check, table_of, empty_table, read_names, clues_of, place_in}
use Rattle.basics.proofs.Tests.{and_iff, eqb_alike}
use Rattle.basics.proofs.Refusals.{check_passed, check_failed, first_here, first_next}
use Rattle.naming.proofs.NameFiles.{accepted_read, refused_read}
use Rattle.refusals.specs.declared.Refusal.{Refusal}
use Rattle.refusals.specs.declared.Verdict.{Verdict}
use Rattle.refusals.specs.declared.Verdict.TheVariants as verdict
use Rattle.refusals.specs.Answers.{verdict_of}
use Rattle.refusals.proofs.Verdicts.{passed_none, refused_some}
use Rattle.bridges.specs.Options.{optional}
use Rattle.bridges.proofs.Options.{given_some, given_none}
use Rattle.name_files.proofs.Reading.{Reading, read_end, read_high_parent, read_high_child, read_again, read_room, read_on}

module _ (file : List ℕ) {v : Verdict} where
  -- a file that its check refuses is answered by that refusal
  refused_by_lem : (n place : ℕ) → file_check file ≡ refuse n place → v ≡ verdict_of (refuse n place) → v ≡ verdict_of (file_check file)
  refused_by_lem n place f e = e ∙ ap verdict_of (sym f)

  -- a file of odd length is refused by 1
  pub read_odd : (length file % 2 ≡ 0 → ⊥) → v ≡ verdict_of (refuse file_length 0) → v ≡ verdict_of (file_check file)
  unfolding file_check
  read_odd n = refused_by_lem file_length 0 (first_here _ _ _
      (check_failed _ file_length 0 (λ t. n ((eqb_alike (length file % 2) 0).0 ((and_iff (eqb (length file % 2) 0) _).0 t).0))))

  -- a file of over 8,192 bytes is refused by 1
  pub read_long : max_file < length file → v ≡ verdict_of (refuse file_length 0) → v ≡ verdict_of (file_check file)
  unfolding file_check
  read_long n = refused_by_lem file_length 0 (first_here _ _ _
      (check_failed _ file_length 0 (λ t. omega (arith, leb→le (length file) max_file ((and_iff (eqb (length file % 2) 0) (leb (length file) max_file)).0 t).1))))

module _ (file : List ℕ) (even : length file % 2 ≡ 0) (small : length file ≤ max_file) where
  -- the pairs decide about a file of a good length
  by_pairs : file_check file ≡ pairs_check 0 [] (pairs file)
  unfolding file_check
  by_pairs = first_next _ _ (check_passed _ file_length 0
      ((and_iff (eqb (length file % 2) 0) (leb (length file) max_file)).1 ((eqb_alike (length file % 2) 0).1 even, le→leb (length file) max_file small)))

  module _ {t : Table} {i : ℕ} (r : Reading file t i) where
    -- a file that was read to its end is accepted
    pub read_whole : length file / 2 ≤ i → verdict.Passed ≡ verdict_of (file_check file)
    read_whole h = ap verdict_of (sym (by_pairs ∙ (read_end file r h).0))

    -- a file that was read to its end has given its whole table
    pub read_table : length file / 2 ≤ i → t ≡ table_of (pairs file)
    read_table h = (read_end file r h).1

    module _ (h : i < length file / 2) {v : Verdict} where
      -- a parent above 63 is refused by 2 at its pair
      pub high_parent : max_name < get_or file (i * 2) 0 → v ≡ verdict_of (refuse name_too_high i) → v ≡ verdict_of (file_check file)
      high_parent k = refused_by_lem file name_too_high i (by_pairs ∙ read_high_parent file r h k)

      -- a child above 63 is refused by 2 at its pair
      pub high_child : max_name < get_or file (i * 2 + 1) 0 → v ≡ verdict_of (refuse name_too_high i) → v ≡ verdict_of (file_check file)
      high_child k = refused_by_lem file name_too_high i (by_pairs ∙ read_high_child file r h k)

    module _ (h : i < length file / 2) (parent : get_or file (i * 2) 0 ≤ max_name) (child : get_or file (i * 2 + 1) 0 ≤ max_name)
        {p : std.Option ℕ} (e : p ≡ optional (place_in (get_or file (i * 2 + 1) 0) (clues_of t (get_or file (i * 2) 0)))) where
      -- a pair that stood before is refused by 3
      pub again : {k : ℕ} → p ≡ Some k → {v : Verdict} → v ≡ verdict_of (refuse pair_again i) → v ≡ verdict_of (file_check file)
      again at = refused_by_lem file pair_again i (by_pairs ∙ read_again file r h parent child _ (given_some _ e at))

      module _ {k : ℕ} (absent : p ≡ None) (counted : k ≡ length (clues_of t (get_or file (i * 2) 0))) where
        -- a new pair finds room in the clue of its parent
        pub room_left : k < table_size
        room_left = read_room file r h parent child (given_none _ e absent) k counted

        -- a new pair is put at the end of its parent's clue, and one pair more is read
        pub more_read : Reading file (set t (get_or file (i * 2) 0) (set (get_or t (get_or file (i * 2) 0) []) k (get_or file (i * 2 + 1) 0))) (i + 1)
        more_read = read_on file r h parent child (given_none _ e absent) k counted

-- rows of the filler alone are a table of empty clues
pub empty_rows : replicate table_size (replicate table_size filler) ≡ empty_table
unfolding empty_table
empty_rows = refl

module _ (file : List ℕ) {v : Verdict} (checked : v ≡ verdict_of (file_check file)) where
  -- an accepted file gives the table of its pairs
  pub table_read_lem : {t : Table} → v ≡ verdict.Passed → t ≡ table_of (pairs file) → t ≡ (read_names file).table
  table_read_lem p e = e ∙ ap (λ a. a.table) (sym (accepted_read file (passed_none _ checked p)))

  -- a refused file gives a table of empty clues
  pub table_refused : {x : Refusal} → v ≡ verdict.Refused x → replicate table_size (replicate table_size filler) ≡ (read_names file).table
  table_refused p = let (r, e) = refused_some _ checked p in empty_rows ∙ ap (λ a. a.table) (sym (refused_read file r e))
