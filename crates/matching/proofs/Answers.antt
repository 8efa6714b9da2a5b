-- What matching answers and leaves, for each way out of its code, and what its calls need on the way.
use Prim.Native.Nat.{ℕ, ◌*◌, ◌<◌, ◌≤◌}
use mathlib.Core.Path.{◌≡◌, refl, sym, ap, subst, ◌∙◌}
use mathlib.Core.Logic.{by_cases}
use mathlib.Core.Bool.{Bool, true, false, not}
use mathlib.Core.List.{List, [], ◌∷◌}
use mathlib.Core.Option.{Option, none, some}
use native.Mathlib.Decide.{dec_lt}
use native.Mathlib.Omega.{arith}
use lib.ListN.{length, get_or, get_or-eq_default}
use borrow.Author.Tests.{le-leb, not-true}
use Rattle.basics.specs.Basics.{all, total, joined, over}
use Rattle.basics.specs.Limits.{label_size, max_records}
use Rattle.basics.specs.Refusals.{Refusal, first, check}
use Rattle.naming.specs.Names.{Table, clues_of}
use Rattle.patterns.specs.Twigs.{GoodTwig, read_twig, twig_check, wanted}
use Rattle.embeddings.specs.Matches.{match_words}
use Rattle.basics.specs.Outputs.{listed, room_check}
use Rattle.match_calls.specs.Matching.{labels_check, matches_of, match_refusal, match_call}
use Rattle.patterns.proofs.TwigBytes.{accepted_twig}
use Rattle.twig_leaves.specs.Guides.{guide}
use Rattle.twig_leaves.proofs.Guides.{guide_below, guide_is_leaf}
use Rattle.match_stream_reading.specs.Reads.{Readable}
use Rattle.basics.proofs.Refusals.{first_here, first_rest, first_last, first_next}
use Rattle.refusals.specs.Answers.{verdict_of, filled, refused_by, listing_of}
use Rattle.refusals.specs.declared.Listing.{Listing}
use Rattle.refusals.specs.declared.Refusal as declared
use Rattle.refusals.specs.declared.Verdict.{Verdict}
use Rattle.refusals.specs.declared.Verdict.TheVariants as verdict
use Rattle.refusals.proofs.Verdicts.{passed_none, refused_some}
use Rattle.match_stream_counts.specs.Counts.{is_few, counts_check}
use Rattle.match_stream_counts.proofs.Counts.{count_few, counts_each, counts_few, counts_words, words_small}
use Rattle.match_stream_counts.proofs.Streams as stream_counts
use Rattle.match_plans.specs.Plans.{Countable, leaves_before, plan_of, Plan}
use Rattle.match_plans.specs.Masks.{Reads}
use Rattle.match_plans.proofs.Planning.{plan_made}
use Rattle.match_parts.specs.Settings.{count_of, Roomy, Searchable, Sharing}
use Rattle.match_pruning.specs.Prunes.{Prunable, Pruned, Matchless}
use Rattle.match_searching.specs.Searches.{found, matches_listed}
use Rattle.match_input_checks.specs.Inputs.{input_check}
use Rattle.match_input_checks.proofs.Inputs.{input_names, input_twig, input_counts}
use Rattle.matching.specs.Workspaces.{Workspace, Within}
use Rattle.matching.proofs.Streams.{all_streamed}
use Rattle.matching.proofs.Found.{searchable, found_matches, none_listed}

-- checks that refuse do so with others behind them, and with a last one that refuses alike
refused_alike_lem : (a b c d s : Option Refusal) (cs : List (Option Refusal)) (r : Refusal) → (d ≡ some r → s ≡ some r) →
    first (a ∷ b ∷ c ∷ d ∷ []) ≡ some r → first (a ∷ b ∷ c ∷ s ∷ cs) ≡ some r
unfolding first
refused_alike_lem (some x) b c d s cs r h e = e
refused_alike_lem none (some x) c d s cs r h e = e
refused_alike_lem none none (some x) d s cs r h e = e
refused_alike_lem none none none d s cs r h e = first_here r s cs (h (sym (first_last d) ∙ e))

-- an input that passed
module _ (rows : Table) (root : ℕ) (bytes counts buffer : List ℕ) (passed : input_check rows root bytes counts (length buffer) ≡ none) where
  -- the twig of the input is accepted
  pub passed_twig : twig_check bytes ≡ none
  passed_twig = input_twig rows root bytes counts (length buffer) passed

  -- the counts of the input are accepted
  pub passed_counts : counts_check (read_twig bytes) counts (length buffer) ≡ none
  passed_counts = input_counts rows root bytes counts (length buffer) passed

  -- a plan can be made
  pub plan_ready : Countable bytes counts
  plan_ready = record {
    good = passed_twig;
    each = counts_each (read_twig bytes) counts (length buffer) passed_counts;
    few = counts_few (read_twig bytes) counts (length buffer) passed_counts;
  }

  -- the plan that is made is one for the buffer
  pub plan_here : {plan : List ℕ} → plan ≡ plan_of (read_twig bytes) counts → Plan (read_twig bytes) counts buffer plan
  plan_here is = plan_made bytes counts buffer passed_twig passed_counts is

-- working arrays with room for the counts have room for a plan's streams
module _ (bytes : List ℕ) {counts buffer plan : List ℕ} (good : twig_check bytes ≡ none) (planned : Plan (read_twig bytes) counts buffer plan) where
  -- the count of a node is that of a leaf
  count_given : (q : ℕ) → q < length (read_twig bytes) → count_of plan q ≡ get_or counts (leaves_before (read_twig bytes) (guide (read_twig bytes) q)) 0
  count_given q h =
      let twig : GoodTwig (read_twig bytes) = accepted_twig bytes good in
      planned.inner_count q h ∙ planned.leaf_count _ (guide_below (read_twig bytes) twig q h).1 (guide_is_leaf (read_twig bytes) twig q h)

  module _ {shares paths masks skips : List ℕ} (work : Workspace counts buffer shares paths masks skips) where
    -- the streams can be read
    pub read_ready : Countable bytes counts → Readable bytes counts plan buffer shares paths masks
    read_ready fit = record {
      countable = fit;
      planned = planned;
      share_room = work.share_room;
      path_room = λ q h. rw (count_given q h) (work.path_room (leaves_before (read_twig bytes) (guide (read_twig bytes) q)));
      mask_room = λ q h. rw (count_given q h) (work.mask_room (leaves_before (read_twig bytes) (guide (read_twig bytes) q)));
    }

    -- the skips of all nodes have room
    pub skips_room : Roomy bytes plan skips
    skips_room q h = rw (count_given q h) (work.skip_room (leaves_before (read_twig bytes) (guide (read_twig bytes) q)))

module _ (rows : Table) (root : ℕ) (bytes counts buffer out : List ℕ) where
  -- a refused call leaves the output
  refused_by_lem : (r : Refusal) {v : Verdict} {a : Listing} → match_refusal rows root bytes counts buffer out ≡ some r → v ≡ verdict_of (some r) → a ≡ refused_by v →
      filled a out ≡ listing_of (match_call rows root bytes counts buffer out)
  unfolding match_call listed
  refused_by_lem r e f g = rw (e, g, f)

  -- an input that is refused
  pub input_refused : {v : Verdict} → v ≡ verdict_of (input_check rows root bytes counts (length buffer)) → {x : declared.Refusal} {a : Listing} →
      v ≡ verdict.Refused x → a ≡ refused_by v → filled a out ≡ listing_of (match_call rows root bytes counts buffer out)
  unfolding input_check match_refusal
  input_refused checked f g =
      let (r, is) = refused_some (input_check rows root bytes counts (length buffer)) checked f in
      refused_by_lem r (refused_alike_lem _ _ _ _ _ _ r (stream_counts.streams_refused (clues_of rows) root (read_twig bytes) counts buffer r) is) (checked ∙ ap verdict_of is) g

  -- an input that passed
  module _ (passed : input_check rows root bytes counts (length buffer) ≡ none) where
    -- the labels are checked, and then the output
    labels_next : match_refusal rows root bytes counts buffer out ≡
        first
        (labels_check (clues_of rows) root 0 (wanted (read_twig bytes)) counts buffer ∷ room_check (match_words (matches_of (clues_of rows) root bytes counts buffer)) out ∷ [])
    unfolding match_refusal
    labels_next =
        let (table, name) = input_names rows root bytes counts (length buffer) passed in
        first_rest _ _ table ∙ first_rest _ _ name ∙ first_rest _ _ (input_twig rows root bytes counts (length buffer) passed) ∙
        ap (λ o. first (o ∷ room_check (match_words (matches_of (clues_of rows) root bytes counts buffer)) out ∷ []))
        (stream_counts.streams_passed (clues_of rows) root (read_twig bytes) counts buffer (input_counts rows root bytes counts (length buffer) passed))

    -- a label that is ruled out refuses the call
    pub label_refused : {v : Verdict} → v ≡ verdict_of (labels_check (clues_of rows) root 0 (wanted (read_twig bytes)) counts buffer) →
        {x : declared.Refusal} {a : Listing} → v ≡ verdict.Refused x → a ≡ refused_by v →
        filled a out ≡ listing_of (match_call rows root bytes counts buffer out)
    label_refused checked f g =
        let (r, is) = refused_some (labels_check (clues_of rows) root 0 (wanted (read_twig bytes)) counts buffer) checked f in
        refused_by_lem r (labels_next ∙ first_here r _ _ is) (checked ∙ ap verdict_of is) g

    -- where the labels pass, the call answers the matches, listed
    all_answered : labels_check (clues_of rows) root 0 (wanted (read_twig bytes)) counts buffer ≡ none →
        matches_listed (matches_of (clues_of rows) root bytes counts buffer) out ≡ match_call rows root bytes counts buffer out
    unfolding match_call matches_listed
    all_answered labelled =
        ap (λ o. listed o (length (matches_of (clues_of rows) root bytes counts buffer)) (match_words (matches_of (clues_of rows) root bytes counts buffer)) out)
        (sym (labels_next ∙ first_next _ _ labelled))

-- where there is no match the output is left as it was
nothing : (out : List ℕ) → filled (record { verdict = verdict.Passed; count = 0 }) out ≡ listing_of (matches_listed [] out)
unfolding matches_listed listed room_check check match_words joined over
nothing out = rw (le-leb 0 (length out) (omega arith))

-- Streams that were read: the input and its labels passed, the plan is the input's, and shares and masks are right.
pub record StreamsRead (rows : Table) (root : ℕ) (bytes counts buffer plan shares masks : List ℕ) : Type 0 where
  pub passed : input_check rows root bytes counts (length buffer) ≡ none
  pub planned : Plan (read_twig bytes) counts buffer plan
  pub labelled : labels_check (clues_of rows) root 0 (wanted (read_twig bytes)) counts buffer ≡ none
  pub reads : Reads (clues_of rows) root bytes counts plan buffer shares masks

-- what is known once the streams have passed
pub streams_read : (rows : Table) (root : ℕ) (bytes counts buffer : List ℕ) → input_check rows root bytes counts (length buffer) ≡ none →
    {plan : List ℕ} → plan ≡ plan_of (read_twig bytes) counts →
    {v : Verdict} → v ≡ verdict_of (labels_check (clues_of rows) root 0 (wanted (read_twig bytes)) counts buffer) → v ≡ verdict.Passed →
    {shares masks : List ℕ} → (v ≡ verdict.Passed → Reads (clues_of rows) root bytes counts plan buffer shares masks) →
    StreamsRead rows root bytes counts buffer plan shares masks
streams_read rows root bytes counts buffer passed is checked good read = record {
  passed = passed;
  planned = plan_here rows root bytes counts buffer passed is;
  labelled = passed_none (labels_check (clues_of rows) root 0 (wanted (read_twig bytes)) counts buffer) checked good;
  reads = read good;
}

module _ {rows : Table} {root : ℕ} {bytes counts buffer plan shares masks : List ℕ} (s : StreamsRead rows root bytes counts buffer plan shares masks) where
  -- the twig of the streams is accepted
  streams_twig : twig_check bytes ≡ none
  streams_twig = passed_twig rows root bytes counts buffer s.passed

  -- the counts of the streams are accepted
  streams_counts : counts_check (read_twig bytes) counts (length buffer) ≡ none
  streams_counts = passed_counts rows root bytes counts buffer s.passed

  -- the shares are right, and have room
  pub shares_ready : {size : ℕ} → length shares ≡ size → length buffer ≤ size * label_size → Sharing bytes plan buffer shares
  shares_ready same room = record { room = rw same room; each = s.reads.shared }

  -- the masks can be pruned
  pub prune_ready : Sharing bytes plan buffer shares → Prunable bytes plan buffer shares masks
  prune_ready sharing = record {
    good = streams_twig;
    streamed = all_streamed (clues_of rows) root bytes counts buffer streams_twig streams_counts s.labelled s.planned;
    sharing = sharing;
    mask_room = s.reads.mask_room;
  }

  -- skips have room where the working arrays have
  pub skips_ready : {shares₀ paths masks₀ skips : List ℕ} → Workspace counts buffer shares₀ paths masks₀ skips → Roomy bytes plan skips
  skips_ready work = skips_room bytes streams_twig s.planned work

  -- where pruning finds no match, none is the answer
  pub match_none : {b : Bool} → (b ≡ false → Matchless bytes plan buffer shares masks) → not b ≡ true → (out : List ℕ) →
      filled (record { verdict = verdict.Passed; count = 0 }) out ≡ listing_of (match_call rows root bytes counts buffer out)
  match_none {b} matchless turned out =
      nothing out ∙
      ap (λ ms. listing_of (matches_listed ms out))
      (sym (none_listed (clues_of rows) root bytes counts buffer streams_twig (matchless (not-true b turned) (clues_of rows) root counts s.planned s.reads))) ∙
      ap listing_of (all_answered rows root bytes counts buffer out s.passed s.labelled)

  module _ {masks' : List ℕ} (pruned : Pruned bytes plan buffer shares masks masks') where
    -- pruned masks are as good as those that were read
    still_read : Reads (clues_of rows) root bytes counts plan buffer shares masks'
    still_read = pruned.still (clues_of rows) root counts s.planned s.reads

    -- the pruned masks can be searched
    pub search_ready : Searchable bytes plan buffer masks'
    search_ready = searchable (clues_of rows) root bytes counts buffer streams_twig streams_counts s.labelled s.planned still_read

    -- the answer of the search is the call's
    pub match_done : (out : List ℕ) {a : Listing} {left : List ℕ} → filled a left ≡ listing_of (matches_listed (found bytes plan buffer masks') out) →
        filled a left ≡ listing_of (match_call rows root bytes counts buffer out)
    match_done out e =
        e ∙
        ap (λ ms. listing_of (matches_listed ms out))
        (found_matches (clues_of rows) root bytes counts buffer streams_twig streams_counts s.labelled s.planned still_read) ∙
        ap listing_of (all_answered rows root bytes counts buffer out s.passed s.labelled)

-- an input that passed has a buffer for at most eight streams of 4,096 labels
buffer_most : (rows : Table) (root : ℕ) (bytes counts buffer : List ℕ) → input_check rows root bytes counts (length buffer) ≡ none → length buffer ≤ 32768 * label_size
buffer_most rows root bytes counts buffer passed =
    let counted : counts_check (read_twig bytes) counts (length buffer) ≡ none = input_counts rows root bytes counts (length buffer) passed in
    omega (
      arith,
      counts_words (read_twig bytes) counts (length buffer) counted,
      words_small bytes counts (length buffer) refl (counts_each (read_twig bytes) counts (length buffer) counted) {b = all is_few counts} refl
          (ap not (counts_few (read_twig bytes) counts (length buffer) counted)) {sum = total counts} refl (input_twig rows root bytes counts (length buffer) passed),
    )

-- working arrays for streams of at most n labels have room
pub spacious : (n : ℕ) {counts buffer shares paths masks skips : List ℕ} → Within n counts buffer →
    length shares ≡ n * 8 → length paths ≡ n * label_size → length masks ≡ n * 8 → length skips ≡ n * 8 → Workspace counts buffer shares paths masks skips
spacious n w s p m k = record {
  share_room = omega (arith, w.whole);
  path_room = λ i. omega (arith, w.each i);
  mask_room = λ i. omega (arith, w.each i);
  skip_room = λ i. omega (arith, w.each i);
}

-- streams that a test found short
pub within_short : (counts buffer : List ℕ) {b : Bool} {n : ℕ} → (b ≡ true → ((i : ℕ) → get_or counts i 0 ≤ n) × (length buffer ≤ n * 8 * label_size)) → b ≡ true → Within n counts buffer
within_short counts buffer tells e = record { each = (tells e).0; whole = (tells e).1 }

-- counts of which none is over 4,096, and none behind them
counts_most : (counts : List ℕ) → all is_few counts ≡ true → (i : ℕ) → get_or counts i 0 ≤ max_records
counts_most counts few i = by_cases (dec_lt i (length counts)) (count_few counts few i) (λ h. omega (arith, get_or-eq_default counts 0 {n = i} (omega arith)))

-- streams of an input that passed have at most 4,096 labels each
pub within_any : (rows : Table) (root : ℕ) (bytes counts buffer : List ℕ) {v : Verdict} → v ≡ verdict_of (input_check rows root bytes counts (length buffer)) →
    v ≡ verdict.Passed → Within max_records counts buffer
within_any rows root bytes counts buffer checked good =
    let passed = passed_none (input_check rows root bytes counts (length buffer)) checked good in
    record {
      each = counts_most counts (counts_few (read_twig bytes) counts (length buffer) (passed_counts rows root bytes counts buffer passed));
      whole = buffer_most rows root bytes counts buffer passed;
    }
