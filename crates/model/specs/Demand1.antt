-- Demand 1 over the definitions: a refused call alters no lent buffer,
-- a call that is taken leaves every buffer as long as it was, and each call refuses by its own numbers.
use Rattle.std.specs.Prelude.{◌≡◌, List, [], ℕ, ◌<◌, length, get_or, replicate, take, drop}
use Rattle.std.proofs.Math.Option.{some, none}
use Rattle.basics.specs.Basics.{over}
use Rattle.basics.specs.Limits.{table_size, label_size}
use Rattle.basics.specs.Refusals.{Refusal, refused, name_asked}
use Rattle.naming.specs.Names.{Table, read_names, empty_table, table_check}
use Rattle.labelling.specs.Labels.{decode_call, kinship_call, follows_call}
use Rattle.store_calls.specs.Updates.{new_store, enter, delete}
use Rattle.cut_calls.specs.Cutting.{cut}
use Rattle.match_calls.specs.Matching.{match_call}
use Rattle.printouts.specs.Printing.{print_refusal}
use Rattle.model.specs.RefusedBy.{RefusedBy, file_numbers, decoding_numbers, label_numbers, new_store_numbers, entry_numbers, deletion_numbers, cut_numbers, match_numbers, print_numbers}

-- Demand 1: what every call leaves, accepted or refused, and by which numbers it refuses.
pub record Demand1 : Type 0 where
  -- The reader of a refused child-name file returns a table of empty clues;
  -- whatever the reader returns is an accepted table of 64 rows of 64.
  pub names : (bytes : List ℕ) (r : Refusal) → (read_names bytes).refusal ≡ some r → (read_names bytes).table ≡ empty_table
  pub tables : (bytes : List ℕ) → table_check (read_names bytes).table ≡ none
  pub rows : (bytes : List ℕ) → length (read_names bytes).table ≡ table_size
  pub places : (bytes : List ℕ) (p : ℕ) → p < table_size → length (get_or (read_names bytes).table p []) ≡ table_size
  -- a refusal of decoding gives no names, all zeros
  pub decodings : (rows : Table) (root : ℕ) (lw : List ℕ) (r : Refusal) →
      (decode_call rows root lw).refusal ≡ some r → (decode_call rows root lw).names ≡ replicate label_size 0
  pub sixteen : (rows : Table) (root : ℕ) (lw : List ℕ) → length (decode_call rows root lw).names ≡ label_size
  -- a refused new store answers the count 0
  pub new_stores : (ws : List ℕ) (root p0 p1 : ℕ) (r : Refusal) →
      (new_store ws root p0 p1).refusal ≡ some r → new_store ws root p0 p1 ≡ record { refusal = some r; count = 0; label = []; slice = ws }
  -- a refused entry answers the count it was given and sixteen zeros, a refused deletion the count it was given
  pub entries : (rows : Table) (ws : List ℕ) (count : ℕ) (lw : List ℕ) (name p0 p1 : ℕ) (r : Refusal) →
      (enter rows ws count lw name p0 p1).refusal ≡ some r →
      enter rows ws count lw name p0 p1 ≡ record { refusal = some r; count = count; label = replicate label_size 0; slice = ws }
  pub deletions : (rows : Table) (ws : List ℕ) (count : ℕ) (lw : List ℕ) (r : Refusal) →
      (delete rows ws count lw).refusal ≡ some r → delete rows ws count lw ≡ record { refusal = some r; count = count; label = []; slice = ws }
  -- a refusal of cutting or matching answers the count 0
  pub cuts : (rows : Table) (ws : List ℕ) (count want : ℕ) (out : List ℕ) (r : Refusal) →
      (cut rows ws count want out).refusal ≡ some r → cut rows ws count want out ≡ record { refusal = some r; count = 0; output = out }
  pub matchings : (rows : Table) (root : ℕ) (bytes counts buffer out : List ℕ) (r : Refusal) →
      (match_call rows root bytes counts buffer out).refusal ≡ some r →
      match_call rows root bytes counts buffer out ≡ record { refusal = some r; count = 0; output = out }
  -- every slice and every output keeps its length
  pub new_store_slice : (ws : List ℕ) (root p0 p1 : ℕ) → length (new_store ws root p0 p1).slice ≡ length ws
  pub entry_slice : (rows : Table) (ws : List ℕ) (count : ℕ) (lw : List ℕ) (name p0 p1 : ℕ) →
      length (enter rows ws count lw name p0 p1).slice ≡ length ws
  pub deletion_slice : (rows : Table) (ws : List ℕ) (count : ℕ) (lw : List ℕ) → length (delete rows ws count lw).slice ≡ length ws
  pub cut_output : (rows : Table) (ws : List ℕ) (count want : ℕ) (out : List ℕ) → length (cut rows ws count want out).output ≡ length out
  pub match_output : (rows : Table) (root : ℕ) (bytes counts buffer out : List ℕ) →
      length (match_call rows root bytes counts buffer out).output ≡ length out
  -- an output is written from its start, and past what is written it is as it was
  pub start : (ws out : List ℕ) → take (length ws) (over ws out) ≡ ws
  pub rest : (ws out : List ℕ) → drop (length ws) (over ws out) ≡ drop (length ws) out
  -- every refusal is by one of the call's numbers, at 0 where the number tells no place; cutting's 7 is at 0 too
  pub names_by : (bytes : List ℕ) (r : Refusal) → (read_names bytes).refusal ≡ some r → RefusedBy file_numbers r
  pub decodings_by : (rows : Table) (root : ℕ) (lw : List ℕ) (r : Refusal) → (decode_call rows root lw).refusal ≡ some r → RefusedBy decoding_numbers r
  pub kinship_by : (a b : List ℕ) (r : Refusal) → kinship_call a b ≡ refused r → RefusedBy label_numbers r
  pub follows_by : (a b : List ℕ) (r : Refusal) → follows_call a b ≡ refused r → RefusedBy label_numbers r
  pub new_stores_by : (ws : List ℕ) (root p0 p1 : ℕ) (r : Refusal) → (new_store ws root p0 p1).refusal ≡ some r → RefusedBy new_store_numbers r
  pub entries_by : (rows : Table) (ws : List ℕ) (count : ℕ) (lw : List ℕ) (name p0 p1 : ℕ) (r : Refusal) →
      (enter rows ws count lw name p0 p1).refusal ≡ some r → RefusedBy entry_numbers r
  pub deletions_by : (rows : Table) (ws : List ℕ) (count : ℕ) (lw : List ℕ) (r : Refusal) →
      (delete rows ws count lw).refusal ≡ some r → RefusedBy deletion_numbers r
  pub cuts_by : (rows : Table) (ws : List ℕ) (count want : ℕ) (out : List ℕ) (r : Refusal) →
      (cut rows ws count want out).refusal ≡ some r → RefusedBy cut_numbers r × (r.number ≡ name_asked → r.place ≡ 0)
  pub matchings_by : (rows : Table) (root : ℕ) (bytes counts buffer out : List ℕ) (r : Refusal) →
      (match_call rows root bytes counts buffer out).refusal ≡ some r → RefusedBy match_numbers r
  pub prints_by : (names store twig : List ℕ) (r : Refusal) → print_refusal names store twig ≡ some r → RefusedBy print_numbers r
