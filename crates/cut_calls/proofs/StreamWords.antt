-- Streams of sound elements are good; laid out in one buffer they are accepted and dealt out again.
use mathlib.Core.Path.{◌≡◌, refl, ap, ap₂, ◌∙◌}
use mathlib.Core.Logic.{inl}
use mathlib.Core.List.{List, [], ◌∷◌, ◌++◌, map, append_assoc}
use mathlib.Core.Option.{Option, none, some}
use Prim.Native.Nat.{ℕ, suc, ◌+◌, ◌*◌, ◌≤◌}
use native.Mathlib.Omega.{arith}
use lib.ListN.{length, get_or, take, drop, length-map, length-append, get_or-map}
use lib.Seq.{take_at, drop_at}
use lib.Dec.{T, leb, le→leb}
use Rattle.basics.specs.Basics.{◌∈◌, elim?, all, keep, joined, total, Ascending, none_left, one_more_lem}
use Rattle.basics.specs.Limits.{max_depth, max_records, label_size, any_name}
use Rattle.naming.specs.Names.{Clues}
use Rattle.labelling.specs.Labels.{Label, before, label_words, label_of}
use Rattle.patterns.specs.Twigs.{Twig, wanted, leaf_names}
use Rattle.embeddings.specs.Matches.{GoodStreams, fits, asks, labels_words}
use Rattle.storage.specs.Store.{Element}
use Rattle.cut_calls.specs.Cutting.{stream, streams}
use Rattle.match_calls.specs.Matching.{labels_in, dealt, in_stream, stream_check, labels_check, streams_check}
use Rattle.basics.proofs.Tests.{and_iff, eqb_alike}
use Rattle.basics.proofs.Lists.{here, there, for_map, keep_iff, keep_ascending, map_ascending, length_keep, keep_all}
use Rattle.basics.proofs.Refusals.{check_passed, first_passed, last_passed}
use Rattle.labelling.proofs.LabelWords.{GoodLabel, label_of-label_words, label_words_good, length-label_words}
use Rattle.embeddings.proofs.MatchWords.{length-labels_words}
use Rattle.storage.proofs.Words.{Fit}
use Rattle.storage.proofs.SoundStore.{SoundElements}
use Rattle.match_calls.proofs.StreamChecks.{GoodStream, Later, nothing_good, each_good, in_stream_iff, stream_check_next, length_wanted}
use Rattle.embeddings.proofs.Asking.{asks_iff}

-- the stream of 255 has the labels of all elements
pub stream_all : (es : List Element) → stream any_name es ≡ map (λ e. e.label) es
unfolding stream
stream_all es = ap (map (λ (e : Element). e.label)) (keep_all (λ e. asks any_name e.name) es (λ e m. (asks_iff any_name e.name).1 (inl refl)))

-- what holds of the label of every element that a name asks for holds of every label of the stream
pub for_stream : (P : Label → Type 0) (want : ℕ) (es : List Element) → ((e : Element) → e ∈ es → T (asks want e.name) → P e.label) →
    (l : Label) → l ∈ stream want es → P l
unfolding stream
for_stream P want es h = for_map (λ e. e.label) P (keep (λ e. asks want e.name) es)
    (λ e m. let (in_es, asked) = (keep_iff (λ e. asks want e.name) es e).0 m in h e in_es asked)

module _ (cl : Clues) (root : ℕ) (es : List Element) (sound : SoundElements cl root es) where
  -- the stream that is cut for a name is good
  pub stream_good : (want : ℕ) → GoodStream cl root (some want) (stream want es)
  unfolding stream fits elim?
  stream_good want = record {
    ordered = map_ascending (λ e. e.label) (λ a b h. h) (keep_ascending (λ e. asks want e.name) sound.ordered);
    labelled = for_stream GoodLabel want es (λ e m a. sound.labelled e m);
    named = for_stream (λ l. T (fits cl root want l)) want es (λ e m a. rw (sound.named e m) a);
  }

  -- the stream that is cut for a node is good
  node_good : (r : Option ℕ) → GoodStream cl root r (elim? r [] (λ want. stream want es))
  unfolding elim?
  node_good none = nothing_good cl root none
  node_good (some want) = stream_good want

-- matching takes the streams of sound elements
pub streams_sound : (cl : Clues) (root : ℕ) (t : Twig) (es : List Element) → SoundElements cl root es → GoodStreams cl root t (streams t es)
unfolding streams elim?
streams_sound cl root t es sound = each_good cl root t (streams t es) (length-map (wanted t) _ ∙ length_wanted t) (λ i.
    rw (get_or-map (λ r. elim? r [] (λ want. stream want es)) (wanted t) i none) (node_good cl root es sound (get_or (wanted t) i none)))

module _ (l : Label) (ls : List Label) (rest : List ℕ) (short : length l ≤ max_depth) where
  -- the first sixteen words of labels are those of the first label
  take-labels_words : take label_size (labels_words (l ∷ ls) ++ rest) ≡ label_words l
  unfolding labels_words joined
  take-labels_words = rw append_assoc (take_at (label_words l) (labels_words ls ++ rest) label_size (length-label_words l short))

  -- behind the words of the first label stand those of the others
  drop-labels_words : drop label_size (labels_words (l ∷ ls) ++ rest) ≡ labels_words ls ++ rest
  unfolding labels_words joined
  drop-labels_words = rw append_assoc (drop_at (label_words l) (labels_words ls ++ rest) label_size (length-label_words l short))

-- labels laid out in words are read back
pub labels_in-labels_words : (ls : List Label) (rest : List ℕ) → ((l : Label) → l ∈ ls → length l ≤ max_depth) →
    labels_in (length ls) (labels_words ls ++ rest) ≡ ls
unfolding labels_in
labels_in-labels_words [] rest h = refl
labels_in-labels_words (l ∷ ls) rest h =
    let short : length l ≤ max_depth = h l (here refl) in
    ap₂ ◌∷◌ (ap label_of (take-labels_words l ls rest short) ∙ label_of-label_words l)
    (ap (labels_in (length ls)) (drop-labels_words l ls rest short) ∙ labels_in-labels_words ls rest (λ m k. h m (there k)))

module _ (cl : Clues) (root want : ℕ) where
  -- good labels in order, each fitting a name and later than the label before them, are accepted as a stream
  labels_accepted : {ls : List Label} → Ascending before ls → ((l : Label) → l ∈ ls → GoodLabel l) →
      ((l : Label) → l ∈ ls → T (fits cl root want l)) → (i : ℕ) (previous : Option Label) (rest : List ℕ) → ((l : Label) → l ∈ ls → Later previous l) →
      stream_check cl root want i previous (length ls) (labels_words ls ++ rest) ≡ none
  labels_accepted none_left good fit i previous rest later = unfold stream_check in refl
  labels_accepted (one_more_lem {a} {more} above asc) good fit i previous rest later =
      let short : length a ≤ max_depth = (good a (here refl)).shallow in
      let held : label_of (label_words a) ≡ a = label_of-label_words a in
      let head : take label_size (labels_words (a ∷ more) ++ rest) ≡ label_words a = take-labels_words a more rest short in
      let now : T (in_stream cl root want previous (label_words a)) = (in_stream_iff cl root want previous (label_words a)).1
      (label_words_good a (good a (here refl)), rw held (fit a (here refl)), rw held (later a (here refl))) in
      stream_check_next cl root want i previous (labels_words (a ∷ more) ++ rest) (rw head now) (length more) ∙
      rw (head, held, drop-labels_words a more rest short)
      (labels_accepted asc (λ l m. good l (there m)) (λ l m. fit l (there m)) (suc i) (some a) rest (unfold elim? in above))

  -- the words of a good stream are accepted
  pub stream_check-labels_words : (ls : List Label) → GoodStream cl root (some want) ls → (i : ℕ) (previous : Option Label) (rest : List ℕ) →
      ((l : Label) → l ∈ ls → Later previous l) → stream_check cl root want i previous (length ls) (labels_words ls ++ rest) ≡ none
  stream_check-labels_words ls good = labels_accepted good.ordered good.labelled (unfold elim? in good.named)

-- the streams s of some names, one after the other in one buffer
module _ (s : ℕ → List Label) where
  -- how many labels each stream has
  abbrev pub counted : List ℕ → List ℕ
  counted = map (λ want. length (s want))

  -- the words of all streams, one stream after the other
  abbrev pub laid : List ℕ → List ℕ
  laid names = joined (map (λ want. labels_words (s want)) names)

  module _ (short : (want : ℕ) (l : Label) → l ∈ s want → length l ≤ max_depth) where
    -- behind the words of one stream stand those of the others
    drop_laid : (want : ℕ) (names : List ℕ) → drop (label_size * length (s want)) (laid (want ∷ names)) ≡ laid names
    unfolding joined
    drop_laid want names = drop_at (labels_words (s want)) (laid names) (label_size * length (s want)) (length-labels_words (s want) (short want))

    -- the buffer of the streams has sixteen words for each label
    length_laid : (names : List ℕ) → length (laid names) ≡ label_size * total (counted names)
    unfolding joined total
    length_laid [] = refl
    length_laid (want ∷ names) =
        omega (arith, length-append (labels_words (s want)) (laid names), length-labels_words (s want) (short want), length_laid names)

    -- the buffer of the streams is dealt out into the streams laid out in it
    dealt_laid : (rs : List (Option ℕ)) → dealt rs (counted (leaf_names rs)) (laid (leaf_names rs)) ≡ map (λ r. elim? r [] s) rs
    unfolding dealt leaf_names elim? joined
    dealt_laid [] = refl
    dealt_laid (none ∷ rs) = ap (◌∷◌ []) (dealt_laid rs)
    dealt_laid (some want ∷ rs) = ap₂ ◌∷◌ (labels_in-labels_words (s want) (laid (leaf_names rs)) (short want))
        (rw (drop_laid want (leaf_names rs)) (dealt_laid rs))

    -- the buffer of good streams is accepted
    labels_check_laid : (cl : Clues) (root : ℕ) → ((want : ℕ) → GoodStream cl root (some want) (s want)) → (rs : List (Option ℕ)) (i : ℕ) →
        labels_check cl root i rs (counted (leaf_names rs)) (laid (leaf_names rs)) ≡ none
    unfolding labels_check leaf_names joined elim?
    labels_check_laid cl root good [] i = refl
    labels_check_laid cl root good (none ∷ rs) i = labels_check_laid cl root good rs i
    labels_check_laid cl root good (some want ∷ rs) i =
        let names : List ℕ = leaf_names rs in
        let others = labels_check cl root (i + length (s want)) rs (counted names) in
        first_passed _ _ (stream_check-labels_words cl root want (s want) (good want) i none (laid names) (λ l m. tt))
        (last_passed _ (ap others (drop_laid want names) ∙ labels_check_laid cl root good rs (i + length (s want))))

-- a stream has at most as many labels as there are elements
pub length_stream : (want : ℕ) (es : List Element) → length (stream want es) ≤ length es
unfolding stream
length_stream want es =
    omega (arith, length-map (keep (λ e. asks want e.name) es) (λ e. e.label), length_keep (λ e. asks want e.name) es)

-- no count is over 4,096 where no stream has more labels
counted_few : (s : ℕ → List Label) → ((want : ℕ) → length (s want) ≤ max_records) → (names : List ℕ) →
    T (all (λ c. leb c max_records) (counted s names))
unfolding all
counted_few s few [] = tt
counted_few s few (want ∷ names) =
    (and_iff (leb (length (s want)) max_records) _).1 (le→leb (length (s want)) max_records (few want), counted_few s few names)

-- the streams of elements, laid out in one buffer, are dealt out again
pub dealt_streams : (rs : List (Option ℕ)) (es : List Element) → Fit es →
    dealt rs (counted (λ want. stream want es) (leaf_names rs)) (laid (λ want. stream want es) (leaf_names rs)) ≡
    map (λ r. elim? r [] (λ want. stream want es)) rs
dealt_streams rs es fit = dealt_laid (λ want. stream want es) (λ want. for_stream (λ l. length l ≤ max_depth) want es (λ e m a. fit e m)) rs

-- the streams of elements, laid out in one buffer, are dealt out to the nodes of a twig
pub dealt_wanted : (t : Twig) (es : List Element) → Fit es →
    dealt (wanted t) (counted (λ want. stream want es) (leaf_names (wanted t))) (laid (λ want. stream want es) (leaf_names (wanted t))) ≡ streams t es
unfolding streams
dealt_wanted t = dealt_streams (wanted t)

-- the streams of at most 4,096 sound elements, laid out in one buffer, are accepted
pub streams_laid : (cl : Clues) (root : ℕ) (t : Twig) (es : List Element) → SoundElements cl root es → length es ≤ max_records →
    streams_check cl root t (counted (λ want. stream want es) (leaf_names (wanted t))) (laid (λ want. stream want es) (leaf_names (wanted t))) ≡ none
unfolding streams_check
streams_laid cl root t es sound few =
    let s : ℕ → List Label = λ want. stream want es in
    let names : List ℕ = leaf_names (wanted t) in
    let short : (want : ℕ) (l : Label) → l ∈ s want → length l ≤ max_depth = λ want l m. ((stream_good cl root es sound want).labelled l m).shallow in
    first_passed _ _ (check_passed _ _ _ ((eqb_alike (length (counted s names)) (length names)).1 (length-map names (λ want. length (s want)))))
    (first_passed _ _ (check_passed _ _ _ (counted_few s (λ want. omega (arith, length_stream want es)) names))
    (first_passed _ _ (check_passed _ _ _ ((eqb_alike (length (laid s names)) (label_size * total (counted s names))).1 (length_laid s short names)))
    (last_passed _ (labels_check_laid s short cl root (stream_good cl root es sound) (wanted t) 0))))
