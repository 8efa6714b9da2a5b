-- Demand 1: what a refused call leaves, and that every buffer keeps its length.
use mathlib.Core.Path.{◌≡◌, refl, sym, ap, ◌∙◌}
use mathlib.Core.List.{List}
use mathlib.Core.Option.{Option, none, some}
use Prim.Native.Nat.{ℕ, ◌≤◌}
use native.Mathlib.Omega.{arith}
use lib.ListN.{length, length-append, replicate, length-replicate}
use Rattle.basics.specs.Basics.{elim?}
use Rattle.basics.specs.Limits.{label_size}
use Rattle.basics.specs.Refusals.{Refusal, refused, reply}
use Rattle.naming.specs.Names.{Table, clues_of}
use Rattle.labelling.specs.Labels.{decode_call, kinship_call, follows_call, decode_refusal, label_of, Decoding, label_check, names_in, Decoded, decode, path, stuck}
use Rattle.store_calls.specs.Updates.{delete, enter, new_store}
use Rattle.basics.specs.Outputs.{listed}
use Rattle.cut_calls.specs.Cutting.{cut, cut_refusal}
use Rattle.match_calls.specs.Matching.{match_call, match_refusal}
use Rattle.model.specs.Demand1.{Demand1}
use Rattle.basics.proofs.Refusals.{first_none, check_none, refused_is}
use Rattle.naming.proofs.NameFiles.{read_refusal, refused_table, file_table, file_size, file_rows}
use Rattle.labelling.proofs.Decode.{starts}
use Rattle.labelling.proofs.LabelWords.{label_of_good}
use Rattle.basics.proofs.Outputs.{length_over, take_over, drop_over, listed_refused, room_iff, listed_refusal}
use Rattle.store_calls.proofs.Updates.{refusal_of_lem, new_store_refused, new_store_slice_lem, enter_refused, enter_slice, delete_refused, delete_slice}
use Rattle.model.proofs.RefusedBy.{file_by, decoding_by, labels_by, new_store_by, entry_by, deletion_by, cut_by, match_by, print_by}

-- decoding refuses as its checks do
decoding_refusal : (rows : Table) (root : ℕ) (lw : List ℕ) → (decode_call rows root lw).refusal ≡ decode_refusal rows root lw
unfolding decode_call elim?
decoding_refusal rows root lw = go (decode_refusal rows root lw)
  where
    go : (o : Option Refusal) → (elim? {B = Decoding} o (record { refusal = none; names = names_in (decode (clues_of rows) root (label_of lw)) })
        (λ r. record { refusal = some r; names = replicate label_size 0 })).refusal ≡ o
    go none = refl
    go (some r) = refl

-- a call that is lent no buffer refuses as its checks do
reply_refused : {A : Type 0} (o : Option Refusal) (a : A) (r : Refusal) → reply o a ≡ refused r → o ≡ some r
unfolding reply
reply_refused none a r e = absurd (let z : ◌≡◌ {A = ℕ} 0 1 = cc in omega arith)
reply_refused (some s) a r e = cc

-- an output keeps its length, whether the result is written or refused
length_listed : (o : Option Refusal) (count : ℕ) (ws out : List ℕ) → (o ≡ none → length ws ≤ length out) → length (listed o count ws out).output ≡ length out
unfolding listed
length_listed none count ws out h = length_over ws out (h refl)
length_listed (some r) count ws out h = refl

-- the names of a path of at most sixteen take sixteen places, and so do the zeros where there is no path
length-names_in : (d : Decoded) → ((ns : List ℕ) → d ≡ path ns → length ns ≤ label_size) → length (names_in d) ≡ label_size
unfolding names_in
length-names_in (path ns) h = simp (length-append, length-replicate) (omega (arith, h ns refl))
length-names_in (stuck i) h = refl

-- decoding answers sixteen places
sixteen_names : (rows : Table) (root : ℕ) (lw : List ℕ) → length (decode_call rows root lw).names ≡ label_size
unfolding decode_call decode_refusal label_check
sixteen_names rows root lw = go (decode_refusal rows root lw) (λ e.
    let label = label_of_good lw (check_none _ _ _ (first_none _ _ (first_none _ _ (first_none _ _ e).1).1).0) in
    length-names_in (decode (clues_of rows) root (label_of lw)) (λ ns f.
    let (rest, d, n) = (starts (clues_of rows) root (label_of lw)).begins ns f in
    omega (arith, ap length d, label.shallow)))
  where
    go : (o : Option Refusal) → (o ≡ none → length (names_in (decode (clues_of rows) root (label_of lw))) ≡ label_size) →
        length (elim? {B = Decoding} o (record { refusal = none; names = names_in (decode (clues_of rows) root (label_of lw)) })
        (λ r. record { refusal = some r; names = replicate label_size 0 })).names ≡ label_size
    go none h = unfold elim? in h refl
    go (some r) h = unfold elim? in refl

-- demand 1 holds
pub demand1 : Demand1
unfolding decode_call kinship_call follows_call new_store enter delete cut cut_refusal match_call match_refusal
demand1 = record {
  names = refused_table;
  tables = file_table;
  rows = file_size;
  places = file_rows;
  decodings = λ rows root lw r e. ap (λ (a : Decoding). a.names) (refused_is (λ a. a.refusal) _ _ _ refl (λ r. refl) r e);
  sixteen = sixteen_names;
  new_stores = new_store_refused;
  entries = enter_refused;
  deletions = delete_refused;
  cuts = λ rows ws count want out r e. listed_refused _ _ _ out r e;
  matchings = λ rows root bytes counts buffer out r e. listed_refused _ _ _ out r e;
  new_store_slice = new_store_slice_lem;
  entry_slice = enter_slice;
  deletion_slice = delete_slice;
  cut_output = λ rows ws count want out. length_listed _ _ _ out (λ e.
      (room_iff _ out).0 (first_none _ _ (first_none _ _ (first_none _ _ (first_none _ _ (first_none _ _ e).1).1).1).1).0);
  match_output = λ rows root bytes counts buffer out. length_listed _ _ _ out (λ e.
      (room_iff _ out).0 (first_none _ _ (first_none _ _ (first_none _ _ (first_none _ _ (first_none _ _ e).1).1).1).1).0);
  start = take_over;
  rest = drop_over;
  names_by = λ bytes r e. file_by bytes r (sym (read_refusal bytes) ∙ e);
  decodings_by = λ rows root lw r e. decoding_by rows root lw r (sym (decoding_refusal rows root lw) ∙ e);
  kinship_by = λ a b r e. labels_by a b r (reply_refused _ _ r e);
  follows_by = λ a b r e. labels_by a b r (reply_refused _ _ r e);
  new_stores_by = λ ws root p0 p1 r e. new_store_by (length ws) root r (sym (refusal_of_lem _ _ _ refl (λ r. refl)) ∙ e);
  entries_by = λ rows ws count lw name p0 p1 r e. entry_by rows ws count lw name r (sym (refusal_of_lem _ _ _ refl (λ r. refl)) ∙ e);
  deletions_by = λ rows ws count lw r e. deletion_by rows ws count lw r (sym (refusal_of_lem _ _ _ refl (λ r. refl)) ∙ e);
  cuts_by = λ rows ws count want out r e. cut_by rows ws count want out r (sym (listed_refusal _ _ _ out) ∙ e);
  matchings_by = λ rows root bytes counts buffer out r e. match_by rows root bytes counts buffer out r (sym (listed_refusal _ _ _ out) ∙ e);
  prints_by = print_by;
}
