-- What the program prints: the line of a refusal of one of its files, else what is printed for the words of the store.
use Prim.Native.Nat.{ℕ, ◌*◌, ◌/◌, ◌≤◌}
use mathlib.Core.Path.{◌≡◌, refl, ◌∙◌}
use mathlib.Core.List.{List, ◌∷◌}
use mathlib.Core.Option.{none}
use native.Mathlib.Omega.{arith}
use lib.ListN.{length, take, length-replicate}
use Rattle.basics.specs.Basics.{over}
use Rattle.basics.specs.Limits.{record_size}
use Rattle.naming.specs.Names.{Table, table_check, file_check, read_names}
use Rattle.storage.specs.Store.{size_check}
use Rattle.printouts.specs.Printing.{refusal_text, file_words, store_file_check, file_count, file_elements, file_matches, print_refusal, printed}
use Rattle.naming.proofs.NameFiles.{file_table}
use Rattle.printouts.proofs.FileStores.{store_file_iff, store_file_sized, length-file_words}
use Rattle.refusals.specs.Answers.{verdict_of}
use Rattle.refusals.specs.declared.Refusal as declared
use Rattle.refusals.specs.declared.Verdict.{Verdict}
use Rattle.refusals.specs.declared.Verdict.TheVariants as verdict
use Rattle.refusals.proofs.Verdicts.{passed_none}
use Rattle.printing.specs.Texts.{Prints, refusal_told, printed_by, store_matches, buffer_checks, store_checks}
use Rattle.printing.proofs.Rooms.{cleared, taken, held}
use Rattle.printing.proofs.Printed.{prints_as, printed_on, printed_refused}

-- the words of a store's file that is accepted have room among 32,000
pub file_room : (len : ℕ) {v : Verdict} → v ≡ verdict_of (store_file_check len) → v ≡ verdict.Passed → len ≤ 2 * length cleared
file_room len is e = omega (arith, ((store_file_iff len).0 (passed_none _ is e)).small, length-replicate {A = ℕ} 32000 0)

-- the words of a store's file
module _ (store : List ℕ) where
  -- a store's file has a word for every two bytes
  words_many : length store / 2 ≡ length (file_words store)
  words_many = let (low, high) = length-file_words store in omega arith

  -- the words of a store's file stand at the start once they are written
  pub words_held : (words₀ : List ℕ) {words : List ℕ} → words ≡ over (file_words store) words₀ → length store / 2 ≤ length words
  words_held words₀ e = held (file_words store) words₀ words_many e

  -- the words taken from the start are those of the file
  words_taken : (words₀ : List ℕ) {words : List ℕ} → words ≡ over (file_words store) words₀ → take (length store / 2) words ≡ file_words store
  words_taken words₀ e = taken (file_words store) words₀ words_many e

-- the table read from a child-name file is accepted
pub names_table : (names : List ℕ) {t : Table} → t ≡ (read_names names).table → table_check t ≡ none
names_table names is = rw is (file_table names)

-- the words of a store's file that is accepted have an accepted size
pub file_size : (store words₀ : List ℕ) {v : Verdict} {words : List ℕ} → v ≡ verdict_of (store_file_check (length store)) → v ≡ verdict.Passed →
    words ≡ over (file_words store) words₀ → size_check (length (take (length store / 2) words)) (length store / (2 * record_size)) ≡ none
unfolding file_count
file_size store words₀ checked fits written = rw (words_taken store words₀ written) (store_file_sized store (passed_none _ checked fits))

module _ (names store twig : List ℕ) where
  -- what is printed is decided by the checks of the files, then by those of the store's words and the twig
  printed_is : printed names store twig ≡
      printed_by (file_check names ∷ store_file_check (length store) ∷ store_checks (read_names names).table (file_words store) (file_count store) twig)
      (store_matches (read_names names).table (file_words store) (file_count store) twig)
  unfolding printed print_refusal printed_by store_checks buffer_checks store_matches file_matches file_elements
  printed_is = refl

  module _ {v : Verdict} (is : v ≡ verdict_of (file_check names)) where
    -- the refusal of a child-name file is printed
    pub names_refused : {x : declared.Refusal} → v ≡ verdict.Refused x → {n : ℕ} {left text : List ℕ} → Prints (refusal_text (refusal_told x)) n left text →
        Prints (printed names store twig) n left text
    names_refused e p = prints_as printed_is (printed_refused (file_check names) _ _ is e p)

    module _ (passed : v ≡ verdict.Passed) {u : Verdict} (checked : u ≡ verdict_of (store_file_check (length store))) where
      -- under an accepted child-name file the store's file decides
      file_next : printed names store twig ≡
          printed_by (store_file_check (length store) ∷ store_checks (read_names names).table (file_words store) (file_count store) twig)
          (store_matches (read_names names).table (file_words store) (file_count store) twig)
      file_next = printed_is ∙ printed_on (file_check names) _ _ (passed_none _ is passed)

      -- the refusal of a store's file is printed
      pub file_refused : {x : declared.Refusal} → u ≡ verdict.Refused x → {n : ℕ} {left text : List ℕ} → Prints (refusal_text (refusal_told x)) n left text →
          Prints (printed names store twig) n left text
      file_refused e p = prints_as file_next (printed_refused (store_file_check (length store)) _ _ checked e p)

      -- a store's file that is accepted, and its words
      module _ (fits : u ≡ verdict.Passed) (words₀ : List ℕ) {words : List ℕ} (written : words ≡ over (file_words store) words₀)
          {t : Table} (table : t ≡ (read_names names).table) where
        -- what is printed for the words of the store is printed for the files
        pub files_printed : {n : ℕ} {left text : List ℕ} →
            Prints (printed_by (store_checks t (take (length store / 2) words) (length store / (2 * record_size)) twig)
            (store_matches t (take (length store / 2) words) (length store / (2 * record_size)) twig)) n left text →
            Prints (printed names store twig) n left text
        unfolding file_count
        files_printed p =
            prints_as (file_next ∙ printed_on (store_file_check (length store)) _ _ (passed_none _ checked fits))
            (rw (table, words_taken store words₀ written) at p)
