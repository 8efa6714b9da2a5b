-- A stream read label by label: what holds before label i, after it, and at the end.
use Prim.Native.Nat.{ℕ, suc, ◌+◌, ◌-◌, ◌*◌, ◌<◌, ◌≤◌}
use mathlib.Core.Path.{◌≡◌, refl, sym, ap, ap₂, subst, ◌∙◌}
use mathlib.Core.Logic.{by_cases}
use mathlib.Core.Bool.{Bool, true, false}
use mathlib.Core.List.{List, [], ◌∷◌, ◌++◌}
use mathlib.Core.Option.{none, some}
use native.Mathlib.Decide.{dec_lt}
use native.Mathlib.Nat.{add-zero, sub-zero}
use native.Mathlib.Omega.{arith}
use native.Mathlib.Numerals.{add-one}
use lib.ListN.{length, get_or, take, drop, set, replicate}
use lib.Seq.{paste, take_all, take-suc, take-suc-set, drop-drop}
use lib.Dec.{T}
use Rattle.std.specs.Prelude.{Some, None}
use Rattle.std.specs.Prelude as std
use Rattle.basics.specs.Basics.{elim?}
use Rattle.basics.specs.Limits.{label_size, max_depth}
use Rattle.basics.specs.Refusals.{refuse, bad_stream}
use Rattle.naming.specs.Names.{Clues}
use Rattle.labelling.specs.Labels.{shared, decode, is_label}
use Rattle.match_calls.specs.Matching.{labels_in, stream_check}
use Rattle.basics.proofs.Tests.{is_true}
use Rattle.labelling.proofs.LabelWords.{label_of_good}
use Rattle.match_calls.proofs.StreamChecks.{in_stream_iff, stream_check_next, stream_check_now}
use Rattle.refusals.specs.Answers.{verdict_of}
use Rattle.refusals.specs.declared.Verdict.{Verdict}
use Rattle.refusals.specs.declared.Verdict.TheVariants as verdict
use Rattle.match_label_decoding.specs.Streams.{Along, words_at, label_at, previous_at, label_before, label_stands, Stood}
use Rattle.match_label_decoding.specs.Answers.{link_of}
use Rattle.match_label_decoding.proofs.Along.{along_root}
use Rattle.match_label_decoding.proofs.Links.{share_in}
use Rattle.match_calls.proofs.Buffers.{length-labels_in}
use Rattle.match_stream_checks.specs.Streams.{stream_shares, Paths}
use Rattle.match_stream_checks.proofs.Shares.{length_shares, shares_at}
use Rattle.match_stream_checks.proofs.Labels.{labels_at, labels_before}
use Rattle.match_stream_checks.proofs.Rows.{pasted_here, pasted_before}

-- an answer that tells a share says that the label stands, and what it shares
said_shares : (b : Bool) (t : ℕ) {s : ℕ} {k : std.Option ℕ} → k ≡ link_of b t → k ≡ Some s → (b ≡ true) × (s ≡ t)
said_shares true t e f = (refl, cc)
said_shares false t e f = absurd (let z : ◌≡◌ {A = ℕ} 0 1 = cc in omega arith)

-- an answer that rules a label out says that the label does not stand
said_out : (b : Bool) (t : ℕ) {k : std.Option ℕ} → k ≡ link_of b t → k ≡ None → b ≡ false
said_out true t e f = absurd (let z : ◌≡◌ {A = ℕ} 0 1 = cc in omega arith)
said_out false t e f = refl

-- Before label i: the labels before it stand, their shares are counted, and the names along them are written.
pub record Reading (cl : Clues) (root want base n : ℕ) (ws : List ℕ) (i : ℕ) (names shares paths : List ℕ) : Type 0 where
  pub rest : stream_check cl root want base none n ws ≡ stream_check cl root want (base + i) (previous_at i ws) (n - i) (drop (i * label_size) ws)
  pub stood : Stood i ws
  pub along : Along cl root (label_before i ws) names
  pub counted : take i shares ≡ take i (stream_shares (labels_in n ws))
  pub laid : (j : ℕ) → j < i → Along cl root (label_at j ws) (take label_size (drop (j * label_size) paths))

-- before the first label nothing is counted, and the names begin with the root's
pub read_start : (cl : Clues) (root want base n : ℕ) (ws shares paths : List ℕ) → Reading cl root want base n ws 0 (root ∷ replicate max_depth 0) shares paths
unfolding previous_at label_before elim? decode
read_start cl root want base n ws shares paths = record {
  rest = ap₂ (λ b m. stream_check cl root want b none m ws) (sym (add-zero base)) (sym (sub-zero n));
  stood = λ e. absurd (e refl);
  along = refl;
  counted = refl;
  laid = λ j h. absurd (omega arith);
}

module _ {cl : Clues} {root want base n : ℕ} {ws : List ℕ} {i : ℕ} {names shares paths : List ℕ}
    (reading : Reading cl root want base n ws i names shares paths) where
  -- the names start at the root
  starts_root : get_or names 0 0 ≡ root
  starts_root = along_root cl root (label_before i ws) names reading.along

  -- label i can be read: the names are those along the label before it
  pub read_ready : Along cl (get_or names 0 0) (label_before i ws) names
  read_ready = subst (λ r. Along cl r (label_before i ws) names) (sym starts_root) reading.along

  -- behind the last label
  module _ (low : i ≤ n) (high : n ≤ i) where
    -- the stream has passed
    pub read_passed : verdict.Passed ≡ verdict_of (stream_check cl root want base none n ws)
    unfolding stream_check
    read_passed = let none_left : n - i ≡ 0 = omega arith in rw (reading.rest, none_left)

    -- the shares are those of the stream
    pub read_shares : length shares ≡ n → shares ≡ stream_shares (labels_in n ws)
    read_shares size =
        let short : length (stream_shares (labels_in n ws)) ≤ i = omega (arith, length_shares (labels_in n ws), length-labels_in n ws) in
        sym (take_all i shares (omega arith)) ∙ reading.counted ∙ take_all i _ short

    -- the names along each label stand in its places
    pub read_names_lem : Paths cl root (labels_in n ws) paths
    read_names_lem j h =
        let inside : j < n = omega (arith, length-labels_in n ws) in
        subst (λ l. Along cl root l (take label_size (drop (j * label_size) paths))) (sym (labels_at n ws j inside)) (reading.laid j (omega arith))

  -- an answer for label i
  module _ (h : i < n) {k : std.Option ℕ} (is : k ≡ link_of (label_stands cl (get_or names 0 0) want i ws) (shared (label_before i ws) (label_at i ws))) where
    -- how many labels are left
    left : n - i ≡ suc (n - (i + 1))
    left = omega arith

    -- the answer for label i, with the names read from the root
    link_is : k ≡ link_of (label_stands cl root want i ws) (shared (label_before i ws) (label_at i ws))
    link_is = is ∙ ap (λ r. link_of (label_stands cl r want i ws) (shared (label_before i ws) (label_at i ws))) starts_root

    -- a label that is ruled out is refused at its place
    pub read_out : k ≡ None → {v : Verdict} → v ≡ verdict_of (refuse bad_stream (base + i)) → v ≡ verdict_of (stream_check cl root want base none n ws)
    unfolding words_at
    read_out e f =
        let ruled : label_stands cl root want i ws ≡ false = said_out (label_stands cl root want i ws) _ link_is e in
        f ∙ ap verdict_of (sym (reading.rest ∙ ap (λ m. stream_check cl root want (base + i) (previous_at i ws) m (drop (i * label_size) ws)) left ∙
        stream_check_now cl root want (base + i) (previous_at i ws) (drop (i * label_size) ws) (λ t. subst T ruled t) (n - (i + 1))))

    -- the answer tells a share
    module _ {s : ℕ} (shown : k ≡ Some s) where
      -- label i stands
      stands : label_stands cl root want i ws ≡ true
      stands = (said_shares (label_stands cl root want i ws) _ link_is shown).0

      -- the share is what label i shares with the one before it
      share : s ≡ shared (label_before i ws) (label_at i ws)
      share = (said_shares (label_stands cl root want i ws) _ link_is shown).1

      -- words i are a label
      good : T (is_label (words_at i ws))
      good = ((in_stream_iff cl root want (previous_at i ws) (words_at i ws)).0 (subst T (sym stands) tt)).0

      -- the share is less than 16, as the label has at most 15 components
      pub read_few : s < label_size
      read_few = omega (arith, share_in (label_before i ws) (label_at i ws) share, (label_of_good (words_at i ws) good).shallow)

      -- label i is the label before the next one
      next_label : label_before (i + 1) ws ≡ label_at i ws
      unfolding label_before previous_at elim?
      next_label = rw add-one

      -- the share is the one that the stream has at label i
      counts : s ≡ get_or (stream_shares (labels_in n ws)) i 0
      counts =
          share ∙ sym (shares_at (labels_in n ws) i (omega (arith, length-labels_in n ws)) ∙
          ap₂ shared (labels_before n ws i h) (labels_at n ws i h))

      -- behind label i the check goes on with the next label
      rest_on : stream_check cl root want base none n ws ≡
          stream_check cl root want (base + (i + 1)) (previous_at (i + 1) ws) (n - (i + 1)) (drop ((i + 1) * label_size) ws)
      unfolding previous_at words_at
      rest_on =
          let place : suc (base + i) ≡ base + (i + 1) = omega arith in
          let on : i * label_size + label_size ≡ (i + 1) * label_size = omega arith in
          reading.rest ∙ ap (λ m. stream_check cl root want (base + i) (previous_at i ws) m (drop (i * label_size) ws)) left ∙
          stream_check_next cl root want (base + i) (previous_at i ws) (drop (i * label_size) ws) (subst T (sym stands) tt) (n - (i + 1)) ∙
          ap₂ (λ b l. stream_check cl root want b (some (label_at i ws)) (n - (i + 1)) l) place
          (drop-drop label_size (i * label_size) ws ∙ ap (λ k. drop k ws) on) ∙
          rw add-one

      -- with its share and its names written, label i is read
      pub read_on : length shares ≡ n → i * label_size + label_size ≤ length paths → {next rows : List ℕ} → length next ≡ label_size →
          (label_stands cl (get_or names 0 0) want i ws ≡ true → Along cl (get_or names 0 0) (label_at i ws) next) →
          rows ≡ paste paths (i * label_size) next label_size → Reading cl root want base n ws (i + 1) next (set shares i s) rows
      read_on size room {next} {rows} sixteen given written =
          let shown_along : Along cl root (label_at i ws) next =
          subst (λ r. Along cl r (label_at i ws) next) starts_root (given (ap (λ r. label_stands cl r want i ws) starts_root ∙ stands)) in
          let here : take label_size (drop (i * label_size) rows) ≡ next =
          ap (λ ps. take label_size (drop (i * label_size) ps)) written ∙ pasted_here paths (i * label_size) next label_size sixteen (omega arith) in
          record {
            rest = rest_on;
            stood = λ e. let back : i + 1 - 1 ≡ i = omega arith in ap (λ j. is_label (words_at j ws)) back ∙ is_true _ good;
            along = subst (λ l. Along cl root l next) (sym next_label) shown_along;
            counted =
                ap (λ m. take m (set shares i s)) (add-one i) ∙ take-suc-set shares i s (omega arith) ∙
                ap₂ (λ (l : List ℕ) (x : ℕ). l ++ (x ∷ [])) reading.counted counts ∙
                sym (take-suc (stream_shares (labels_in n ws)) i 0 (omega (arith, length_shares (labels_in n ws), length-labels_in n ws))) ∙
                ap (λ m. take m (stream_shares (labels_in n ws))) (sym (add-one i));
            laid = λ j low. by_cases (dec_lt j i)
                (λ p. subst (λ ps. Along cl root (label_at j ws) ps) (sym (ap (λ ps. take label_size (drop (j * label_size) ps)) written ∙
                pasted_before paths (i * label_size) next label_size (j * label_size) label_size (omega arith) (omega arith))) (reading.laid j p))
                (λ p. let at : j ≡ i = omega arith in rw at (subst (λ ps. Along cl root (label_at i ws) ps) (sym here) shown_along));
          }
