-- Every call refuses by one of its own numbers, and at a place only where the number tells one.
use mathlib.Core.Path.{◌≡◌, refl, sym, subst}
use mathlib.Core.Bool.{◌&&◌, not}
use mathlib.Core.List.{List, [], ◌∷◌}
use mathlib.Core.Option.{Option, none, some}
use Prim.Native.Nat.{ℕ, suc, ◌≤◌}
use native.Mathlib.Omega.{arith}
use lib.ListN.{length}
use lib.Dec.{T, eqb, ltb, leb, T_not}
use Rattle.basics.specs.Basics.{◌∈◌, elim?, stands}
use Rattle.basics.specs.Refusals.{Refusal, refuse, check, first, file_length, name_too_high, pair_again, twig_length, twig_parent, twig_edge, name_asked, twig_end, no_record, not_in_clue, too_deep, no_number, no_space, root_stays, not_label, empty_clue, short_output, store_size, bad_layout, bad_stream, bad_root, bad_table, bad_order, bad_name, bad_next}
use Rattle.basics.specs.Limits.{max_depth, max_component}
use Rattle.naming.specs.Names.{Table, Clues, clues_of, place_in, Pair, pairs, pair_check, pairs_check, file_check, table_check, root_check}
use Rattle.labelling.specs.Numbers.{number}
use Rattle.labelling.specs.Labels.{Label, label_of, Decoded, path, stuck, decode, label_check, path_check, decode_refusal}
use Rattle.basics.specs.Outputs.{room_check}
use Rattle.patterns.specs.Twigs.{Twig, read_twig, name_check, node_check, nodes_check, twig_check}
use Rattle.match_calls.specs.Matching.{streams_check, match_refusal}
use Rattle.storage.specs.Store.{Element, size_check, sound_check}
use Rattle.store_calls.specs.Updates.{parent_check, space_check, root_stays_check, found_check, new_store_refusal, entry_refusal, deletion_refusal}
use Rattle.cut_calls.specs.Cutting.{cut_refusal}
use Rattle.printouts.specs.Printing.{store_file_check, buffer_check, print_refusal}
use Rattle.book.specs.Book.{Book, Call, entry, deletion, book_refusal}
use Rattle.model.specs.RefusedBy.{RefusedBy, placed_numbers, file_numbers, decoding_numbers, label_numbers, new_store_numbers, entry_numbers, deletion_numbers, run_numbers, cut_numbers, match_numbers, print_numbers}
use Rattle.basics.proofs.Tests.{and_iff, eqb_alike}
use Rattle.basics.proofs.Lists.{stands_iff}
use Rattle.basics.proofs.Refusals.{at, Each, each_none, each_refuse, each_check, each_first, each_last}
use Rattle.labelling.proofs.Decode.{starts}
use Rattle.match_calls.proofs.StreamFacts.{streams_check_refused}
use Rattle.storage.proofs.Faults.{sound_refusal, rule_numbers}

-- a refusal by a number has a property that all refusals by that number have
numbered : (P : Refusal → Type 0) (r : Refusal) (n : ℕ) → r.number ≡ n → ((i : ℕ) → P (at n i)) → P r
numbered P r n e p = subst (λ m. P (at m r.place)) (sym e) (p r.place)

module _ (P : Refusal → Type 0) where
  -- the check of a root name refuses by 21 at 0
  each_root : (root : ℕ) → P (at bad_root 0) → Each P (root_check root)
  unfolding root_check
  each_root root p = each_check P _ bad_root 0 p

  -- the check of a table refuses by 22 at 0
  each_table : (rows : Table) → P (at bad_table 0) → Each P (table_check rows)
  unfolding table_check
  each_table rows p = each_check P _ bad_table 0 p

  -- the check of a label's words refuses by 15 at 0
  each_label : (ws : List ℕ) → P (at not_label 0) → Each P (label_check ws)
  unfolding label_check
  each_label ws p = each_check P _ not_label 0 p

  -- the check of what a label decodes to refuses by 16 at a component, counted from 1
  each_path : (cl : Clues) (root : ℕ) (l : Label) → ((i : ℕ) → 1 ≤ i → P (at empty_clue i)) → Each P (path_check (decode cl root l))
  each_path cl root l p = go (decode cl root l) (λ i e. ((starts cl root l).stops i e).0)
    where
      go : (d : Decoded) → ((i : ℕ) → d ≡ stuck i → 1 ≤ i) → Each P (path_check d)
      go (path ns) h = unfold path_check in each_none P
      go (stuck i) h = unfold path_check in each_refuse P empty_clue i (p i (h i refl))

  -- the check of a slice's length and a count refuses by 18 at 0
  each_size : (len count : ℕ) → P (at store_size 0) → Each P (size_check len count)
  unfolding size_check
  each_size len count p = each_check P _ store_size 0 p

  -- the check of the records in use refuses by 19, 23, 24 or 25 at a record
  each_sound : (cl : Clues) (count : ℕ) (ws : List ℕ) → ((i : ℕ) → P (at bad_layout i)) → ((i : ℕ) → P (at bad_order i)) → ((i : ℕ) → P (at bad_name i)) →
      ((i : ℕ) → P (at bad_next i)) → Each P (sound_check cl count ws)
  each_sound cl count ws p q u v r e =
      let (f, found, number, place) = sound_refusal cl count ws r e in
      numbered P r _ number (rule_numbers (λ n. (i : ℕ) → P (at n i)) p q u v f.rule)

  -- the check of an entry's parent refuses by 9, 10, 11 or 12 at 0
  each_parent : (cl : Clues) (found : Option Element) (name : ℕ) → P (at no_record 0) → P (at not_in_clue 0) → P (at too_deep 0) → P (at no_number 0) →
      Each P (parent_check cl found name)
  unfolding parent_check
  each_parent cl none name p q u v = each_refuse P no_record 0 p
  each_parent cl (some x) name p q u v = go (place_in name (cl x.name))
    where
      go : (o : Option ℕ) → Each P (elim? o (refuse not_in_clue 0) (λ k.
          first (check (ltb (length x.label) max_depth) too_deep 0 ∷ check (leb (number (length (cl x.name)) k x.next) max_component) no_number 0 ∷ [])))
      go none = unfold elim? in each_refuse P not_in_clue 0 q
      go (some k) = unfold elim? in each_first P _ _ (each_check P _ too_deep 0 u) (each_last P _ (each_check P _ no_number 0 v))

  -- the check for a free record refuses by 13 at 0
  each_space : (len count : ℕ) → P (at no_space 0) → Each P (space_check len count)
  unfolding space_check
  each_space len count p = each_check P _ no_space 0 p

  -- the check that a label is not the root's refuses by 14 at 0
  each_stays : (l : Label) → P (at root_stays 0) → Each P (root_stays_check l)
  unfolding root_stays_check
  each_stays l p = each_check P _ root_stays 0 p

  -- the check that a record was found refuses by 9 at 0
  each_found : {A : Type 0} (o : Option A) → P (at no_record 0) → Each P (found_check o)
  unfolding found_check
  each_found none p = each_refuse P no_record 0 p
  each_found (some x) p = each_none P

  -- the check of a name asked for refuses by 7 at the place handed in
  each_name : (want place : ℕ) → P (at name_asked place) → Each P (name_check want place)
  unfolding name_check
  each_name want place p = each_check P _ name_asked place p

  -- the check of an output's length refuses by 17 at 0
  each_room : (ws out : List ℕ) → P (at short_output 0) → Each P (room_check ws out)
  unfolding room_check
  each_room ws out p = each_check P _ short_output 0 p

  module _ (p : (i : ℕ) → P (at twig_parent i)) (q : (i : ℕ) → P (at twig_edge i)) (u : (i : ℕ) → P (at name_asked i)) (v : (i : ℕ) → P (at twig_end i)) where
    -- the check of a twig's nodes refuses by 5 to 8 at a node
    each_nodes : (i : ℕ) (bytes : List ℕ) → Each P (nodes_check i bytes)
    unfolding nodes_check node_check
    each_nodes i [] = each_none P
    each_nodes i (a ∷ []) = each_none P
    each_nodes i (a ∷ b ∷ []) = each_none P
    each_nodes i (a ∷ b ∷ c ∷ []) = each_none P
    each_nodes i (a ∷ b ∷ c ∷ d ∷ bytes) = each_first P _ _
        (each_first P _ _ (each_check P _ twig_parent i (p i))
        (each_first P _ _ (each_check P _ twig_edge i (q i))
        (each_first P _ _ (each_name c i (u i)) (each_last P _ (each_check P _ twig_end i (v i))))))
        (each_last P _ (each_nodes (suc i) bytes))

    -- the check of a twig refuses by 4 at 0, or as that of its nodes
    each_twig : (bytes : List ℕ) → P (at twig_length 0) → Each P (twig_check bytes)
    unfolding twig_check
    each_twig bytes w = each_first P _ _ (each_check P _ twig_length 0 w) (each_last P _ (each_nodes 0 bytes))

  -- the check of streams refuses by 20 at a label
  each_streams : (cl : Clues) (root : ℕ) (t : Twig) (counts buffer : List ℕ) → ((i : ℕ) → P (at bad_stream i)) → Each P (streams_check cl root t counts buffer)
  each_streams cl root t counts buffer p r e = numbered P r bad_stream ((streams_check_refused cl root t counts buffer r).0 e).0 p

  module _ (p : (i : ℕ) → P (at name_too_high i)) (q : (i : ℕ) → P (at pair_again i)) where
    -- the check of pairs refuses by 2 or 3 at a pair
    each_pairs : (i : ℕ) (earlier qs : List Pair) → Each P (pairs_check i earlier qs)
    unfolding pairs_check pair_check
    each_pairs i earlier [] = each_none P
    each_pairs i earlier (x ∷ qs) = each_first P _ _
        (each_first P _ _ (each_check P _ name_too_high i (p i)) (each_last P _ (each_check P _ pair_again i (q i)))) (each_last P _ (each_pairs (suc i) (x ∷ earlier) qs))

    -- the check of a child-name file refuses by 1 at 0, or as that of its pairs
    each_file : (bytes : List ℕ) → P (at file_length 0) → Each P (file_check bytes)
    unfolding file_check
    each_file bytes u = each_first P _ _ (each_check P _ file_length 0 u) (each_last P _ (each_pairs 0 [] (pairs bytes)))

module _ (numbers : List ℕ) where
  -- a refusal by a listed number other than 16, at 0 where the number tells no place
  by_other : (n i : ℕ) → T (stands n numbers && not (eqb n empty_clue)) → ((n ∈ placed_numbers → ⊥) → i ≡ 0) → RefusedBy numbers (at n i)
  by_other n i t zero =
      let (in_List, other) = (and_iff (stands n numbers) (not (eqb n empty_clue))).0 t in
      record {
        listed = (stands_iff n numbers).0 in_List;
        at_zero = zero;
        from_one = λ e. absurd (T_not (eqb n empty_clue) other ((eqb_alike n empty_clue).1 e));
      }

  -- a refusal at 0 by a listed number other than 16
  by_zero : (n : ℕ) → T (stands n numbers && not (eqb n empty_clue)) → RefusedBy numbers (at n 0)
  by_zero n t = by_other n 0 t (λ h. refl)

  -- a refusal by a listed number other than 16 that tells a place, at any place
  by_place : (n : ℕ) → T (stands n numbers && not (eqb n empty_clue)) → T (stands n placed_numbers) → (i : ℕ) → RefusedBy numbers (at n i)
  by_place n t u i = by_other n i t (λ h. absurd (h ((stands_iff n placed_numbers).0 u)))

-- reading a child-name file refuses by its own numbers
pub file_by : (bytes : List ℕ) → Each (RefusedBy file_numbers) (file_check bytes)
unfolding file_numbers placed_numbers stands
file_by bytes =
    let told = by_place file_numbers in
    each_file (RefusedBy file_numbers) (told name_too_high tt tt) (told pair_again tt tt) bytes (by_zero file_numbers file_length tt)

-- decoding refuses by its own numbers
pub decoding_by : (rows : Table) (root : ℕ) (lw : List ℕ) → Each (RefusedBy decoding_numbers) (decode_refusal rows root lw)
unfolding decode_refusal decoding_numbers placed_numbers stands
decoding_by rows root lw =
    let P = RefusedBy decoding_numbers in
    let zero = by_zero decoding_numbers in
    each_first P _ _ (each_table P rows (zero bad_table tt))
    (each_first P _ _ (each_root P root (zero bad_root tt))
    (each_first P _ _ (each_label P lw (zero not_label tt))
    (each_last P _ (each_path P (clues_of rows) root (label_of lw) stuck_at))))
  where
    stuck_at : (i : ℕ) → 1 ≤ i → RefusedBy decoding_numbers (at empty_clue i)
    stuck_at i h = record {
      listed = (stands_iff empty_clue decoding_numbers).0 tt;
      at_zero = λ n. absurd (n ((stands_iff empty_clue placed_numbers).0 tt));
      from_one = λ e. h;
    }

-- kinship and follows refuse by 15 alone
pub labels_by : (a b : List ℕ) → Each (RefusedBy label_numbers) (first (label_check a ∷ label_check b ∷ []))
unfolding label_numbers placed_numbers stands
labels_by a b =
    let P = RefusedBy label_numbers in
    let zero = by_zero label_numbers not_label tt in
    each_first P _ _ (each_label P a zero) (each_last P _ (each_label P b zero))

-- a new store refuses by its own numbers
pub new_store_by : (len root : ℕ) → Each (RefusedBy new_store_numbers) (new_store_refusal len root)
unfolding new_store_refusal new_store_numbers placed_numbers stands
new_store_by len root =
    let P = RefusedBy new_store_numbers in
    let zero = by_zero new_store_numbers in
    each_first P _ _ (each_check P _ store_size 0 (zero store_size tt)) (each_last P _ (each_root P root (zero bad_root tt)))

-- an entry refuses by its own numbers
pub entry_by : (rows : Table) (ws : List ℕ) (count : ℕ) (lw : List ℕ) (name : ℕ) → Each (RefusedBy entry_numbers) (entry_refusal rows ws count lw name)
unfolding entry_refusal entry_numbers placed_numbers stands
entry_by rows ws count lw name =
    let P = RefusedBy entry_numbers in
    let zero = by_zero entry_numbers in
    let told = by_place entry_numbers in
    each_first P _ _ (each_table P rows (zero bad_table tt))
    (each_first P _ _ (each_size P (length ws) count (zero store_size tt))
    (each_first P _ _ (each_sound P (clues_of rows) count ws (told bad_layout tt tt) (told bad_order tt tt) (told bad_name tt tt) (told bad_next tt tt))
    (each_first P _ _ (each_label P lw (zero not_label tt))
    (each_first P _ _ (each_parent P (clues_of rows) _ name (zero no_record tt) (zero not_in_clue tt) (zero too_deep tt) (zero no_number tt))
    (each_last P _ (each_space P (length ws) count (zero no_space tt)))))))

-- a deletion refuses by its own numbers
pub deletion_by : (rows : Table) (ws : List ℕ) (count : ℕ) (lw : List ℕ) → Each (RefusedBy deletion_numbers) (deletion_refusal rows ws count lw)
unfolding deletion_refusal deletion_numbers placed_numbers stands
deletion_by rows ws count lw =
    let P = RefusedBy deletion_numbers in
    let zero = by_zero deletion_numbers in
    let told = by_place deletion_numbers in
    each_first P _ _ (each_table P rows (zero bad_table tt))
    (each_first P _ _ (each_size P (length ws) count (zero store_size tt))
    (each_first P _ _ (each_sound P (clues_of rows) count ws (told bad_layout tt tt) (told bad_order tt tt) (told bad_name tt tt) (told bad_next tt tt))
    (each_first P _ _ (each_label P lw (zero not_label tt))
    (each_first P _ _ (each_stays P (label_of lw) (zero root_stays tt)) (each_last P _ (each_found P _ (zero no_record tt)))))))

-- the book refuses a call by the call's own numbers, but for 22, 19 and 23 to 25
pub run_by : (cl : Clues) (b : Book) (len : ℕ) (c : Call) → Each (RefusedBy (run_numbers c)) (book_refusal cl b len c)
unfolding book_refusal run_numbers placed_numbers stands
run_by cl b len (entry new) =
    let P = RefusedBy (run_numbers (entry new)) in
    let zero = by_zero (run_numbers (entry new)) in
    each_first P _ _ (each_size P len (length b) (zero store_size tt))
    (each_first P _ _ (each_label P new.parent (zero not_label tt))
    (each_first P _ _ (each_parent P cl _ new.name (zero no_record tt) (zero not_in_clue tt) (zero too_deep tt) (zero no_number tt))
    (each_last P _ (each_space P len (length b) (zero no_space tt)))))
run_by cl b len (deletion lw) =
    let P = RefusedBy (run_numbers (deletion lw)) in
    let zero = by_zero (run_numbers (deletion lw)) in
    each_first P _ _ (each_size P len (length b) (zero store_size tt))
    (each_first P _ _ (each_label P lw (zero not_label tt))
    (each_first P _ _ (each_stays P (label_of lw) (zero root_stays tt)) (each_last P _ (each_found P _ (zero no_record tt)))))

-- cutting refuses by its own numbers, by 7 at 0
pub cut_by : (rows : Table) (ws : List ℕ) (count want : ℕ) (out : List ℕ) →
    Each (λ r. RefusedBy cut_numbers r × (r.number ≡ name_asked → r.place ≡ 0)) (cut_refusal rows ws count want out)
unfolding cut_refusal cut_numbers placed_numbers stands
cut_by rows ws count want out =
    let P : Refusal → Type 0 = λ r. RefusedBy cut_numbers r × (r.number ≡ name_asked → r.place ≡ 0) in
    let zero = by_zero cut_numbers in
    let told : (n : ℕ) → T (stands n cut_numbers && not (eqb n empty_clue)) → T (stands n placed_numbers) → (n ≡ name_asked → ⊥) → (i : ℕ) → P (at n i) =
    λ n t u other i. (by_place cut_numbers n t u i, λ e. absurd (other e)) in
    each_first P _ _ (each_table P rows (zero bad_table tt, λ e. refl))
    (each_first P _ _ (each_size P (length ws) count (zero store_size tt, λ e. refl))
    (each_first P _ _ (each_sound P (clues_of rows) count ws (told bad_layout tt tt (λ e. omega arith)) (told bad_order tt tt (λ e. omega arith))
    (told bad_name tt tt (λ e. omega arith)) (told bad_next tt tt (λ e. omega arith)))
    (each_first P _ _ (each_name P want 0 (zero name_asked tt, λ e. refl)) (each_last P _ (each_room P _ out (zero short_output tt, λ e. refl))))))

-- matching refuses by its own numbers
pub match_by : (rows : Table) (root : ℕ) (bytes counts buffer out : List ℕ) → Each (RefusedBy match_numbers) (match_refusal rows root bytes counts buffer out)
unfolding match_refusal match_numbers placed_numbers stands
match_by rows root bytes counts buffer out =
    let P = RefusedBy match_numbers in
    let zero = by_zero match_numbers in
    let told = by_place match_numbers in
    each_first P _ _ (each_table P rows (zero bad_table tt))
    (each_first P _ _ (each_root P root (zero bad_root tt))
    (each_first P _ _ (each_twig P (told twig_parent tt tt) (told twig_edge tt tt) (told name_asked tt tt) (told twig_end tt tt) bytes (zero twig_length tt))
    (each_first P _ _ (each_streams P (clues_of rows) root (read_twig bytes) counts buffer (told bad_stream tt tt))
    (each_last P _ (each_room P _ out (zero short_output tt))))))

-- the program refuses by its own numbers
pub print_by : (names store twig : List ℕ) → Each (RefusedBy print_numbers) (print_refusal names store twig)
unfolding print_refusal store_file_check buffer_check print_numbers placed_numbers stands
print_by names store twig =
    let P = RefusedBy print_numbers in
    let zero = by_zero print_numbers in
    let told = by_place print_numbers in
    each_first P _ _ (each_file P (told name_too_high tt tt) (told pair_again tt tt) names (zero file_length tt))
    (each_first P _ _ (each_check P _ store_size 0 (zero store_size tt))
    (each_first P _ _ (each_sound P _ _ _ (told bad_layout tt tt) (told bad_order tt tt) (told bad_name tt tt) (told bad_next tt tt))
    (each_first P _ _ (each_twig P (told twig_parent tt tt) (told twig_edge tt tt) (told name_asked tt tt) (told twig_end tt tt) twig (zero twig_length tt))
    (each_first P _ _ (each_check P _ short_output 0 (zero short_output tt)) (each_last P _ (each_check P _ short_output 0 (zero short_output tt)))))))
