-- The program's checks by the facts of its three files: what it prints where all hold,
-- and by which refusal it refuses where one fails.
use mathlib.Core.Path.{◌≡◌, refl, sym, ap, subst, ◌∙◌}
use mathlib.Core.Logic.{◌↔◌, ⊎_elim, by_cases}
use mathlib.Core.Bool.{Bool, true, false}
use mathlib.Core.List.{List, [], ◌∷◌, map}
use mathlib.Core.Option.{Option, none, some, none-ne-some, some-ne-none}
use Prim.Native.Nat.{ℕ, ◌*◌, ◌<◌, ◌≤◌}
use native.Mathlib.Decide.{dec_lt}
use native.Mathlib.Nat.{mul_assoc}
use native.Mathlib.Omega.{arith}
use lib.ListN.{length, get_or, length-append}
use Rattle.basics.specs.Basics.{◌∈◌, elim?, joined, total}
use Rattle.basics.specs.Limits.{label_size, max_depth, max_bytes}
use Rattle.basics.specs.Refusals.{Refusal, refuse, check, first, short_output, store_size}
use Rattle.labelling.specs.Labels.{Label}
use Rattle.patterns.specs.Twigs.{Twig, read_twig, twig_check, wanted, leaf_names}
use Rattle.embeddings.specs.Matches.{matches, labels_words, match_words}
use Rattle.storage.specs.Store.{root_of}
use Rattle.cut_calls.specs.Cutting.{stream, streams, full_list}
use Rattle.printouts.specs.Printing.{store_file_check, buffer_check, file_elements, file_matches, file_words, print_refusal, printed}
use Rattle.printouts.specs.Printable.{StoreLength, file_clues, file_sound, stream_bytes, match_bytes, Printable, Unprintable, bad_names, bad_length, bad_record, bad_twig, long_streams, long_matches, PrintHolds}
use Rattle.basics.proofs.Lists.{nowhere, either_part}
use Rattle.labelling.proofs.LabelWords.{GoodLabel}
use Rattle.basics.proofs.Refusals.{first_none, first_some, first_rest, first_here, first_last, first_passed, last_passed, taken}
use Rattle.patterns.proofs.TwigBytes.{accepted_twig}
use Rattle.embeddings.proofs.MatchWords.{length-labels_words}
use Rattle.embeddings.proofs.MatchSizes.{match_words_lem}
use Rattle.storage.proofs.SoundStore.{SoundElements, store_elements}
use Rattle.cut_calls.proofs.StreamWords.{for_stream, counted}
use Rattle.cut_calls.proofs.AskedLabels.{streams_asked}
use Rattle.printouts.proofs.FileStores.{store_file_iff, store_file_sized, buffer_iff}

-- The streams of some nodes, of which a leaf has a name and an inner node none.
module _ (s : ℕ → List Label) (short : (want : ℕ) (l : Label) → l ∈ s want → length l ≤ max_depth) where
  -- the labels of all streams
  abbrev labels_of : List (Option ℕ) → List Label
  labels_of rs = joined (map (λ r. elim? r [] s) rs)

  -- each label of the streams has at most 15 components
  all_short : (rs : List (Option ℕ)) (l : Label) → l ∈ labels_of rs → length l ≤ max_depth
  unfolding joined elim?
  all_short [] l m = absurd (nowhere m)
  all_short (none ∷ rs) l m = all_short rs l m
  all_short (some want ∷ rs) l m = ⊎_elim (short want l) (all_short rs l) (either_part (s want) m)

  -- the streams together have as many labels as those of the leaves
  all_counted : (rs : List (Option ℕ)) → length (labels_of rs) ≡ total (counted s (leaf_names rs))
  unfolding joined elim? leaf_names total
  all_counted [] = refl
  all_counted (none ∷ rs) = all_counted rs
  all_counted (some want ∷ rs) = omega (arith, length-append (s want) (labels_of rs), all_counted rs)

  -- the labels of the streams have sixteen words each
  all_words : (rs : List (Option ℕ)) → length (labels_words (labels_of rs)) ≡ label_size * total (counted s (leaf_names rs))
  all_words rs = length-labels_words (labels_of rs) (all_short rs) ∙ ap (λ n. label_size * n) (all_counted rs)

-- a check refuses exactly if the fact fails by which it passes, and then by its own number and place
check_refuses : {P : Type 0} (b : Bool) (n place : ℕ) (r : Refusal) → check b n place ≡ none ↔ P → check b n place ≡ some r ↔ ((P → ⊥) × (refuse n place ≡ some r))
unfolding check
check_refuses true n place r e = (λ h. absurd (none-ne-some r h), λ h. absurd (h.0 (e.0 refl)))
check_refuses false n place r e = (λ h. (λ p. absurd (some-ne-none _ (e.1 p)), h), λ h. h.1)

-- the length of a store's file is refused exactly if its facts do not hold
length_refuses : (len : ℕ) (r : Refusal) → store_file_check len ≡ some r ↔ ((StoreLength len → ⊥) × (refuse store_size 0 ≡ some r))
unfolding store_file_check
length_refuses len r = check_refuses _ store_size 0 r (store_file_iff len)

-- words are refused exactly if they take more bytes than a buffer has
buffer_refuses : (ws : List ℕ) (n : ℕ) (r : Refusal) → 2 * length ws ≡ n → buffer_check ws ≡ some r ↔ ((max_bytes < n) × (refuse short_output 0 ≡ some r))
unfolding buffer_check
buffer_refuses ws n r e =
    let h = check_refuses _ short_output 0 r (buffer_iff ws) in (
      λ d. let (k, f) = h.0 d in (by_cases (dec_lt max_bytes n) (λ p. p) (λ p. absurd (k (omega arith))), f),
      λ p. h.1 (λ k. omega (arith, p.0), p.1),
    )

module _ (names store twig : List ℕ) (sized : StoreLength (length store)) (sound : file_sound names store ≡ none) where
  -- the elements of the store's file are sound
  elements_sound : SoundElements (file_clues names) (root_of (file_words store)) (file_elements store)
  unfolding file_elements
  elements_sound = store_elements (file_clues names) (file_words store) _ (store_file_sized store ((store_file_iff (length store)).1 sized)) sound

  -- the labels of the elements that a name asks for are good
  stream_labels : (want : ℕ) (l : Label) → l ∈ stream want (file_elements store) → GoodLabel l
  stream_labels want = for_stream GoodLabel want (file_elements store) (λ e m a. elements_sound.labelled e m)

  -- the labels of a twig's streams are good
  streams_labelled : (t : Twig) (i : ℕ) (l : Label) → l ∈ get_or (streams t (file_elements store)) i [] → GoodLabel l
  streams_labelled t i l m = let (e, s, a, f) = ((streams_asked t (file_elements store) i l).0 m).1 in subst GoodLabel f (elements_sound.labelled e s)

  -- the streams of the twig take as many bytes as the facts say
  stream_bytes_lem : 2 * length (labels_words (joined (streams (read_twig twig) (file_elements store)))) ≡ stream_bytes store twig
  unfolding streams stream_bytes
  stream_bytes_lem = ap (λ n. 2 * n) (all_words (λ want. stream want (file_elements store)) (λ want l m. (stream_labels want l m).shallow) (wanted (read_twig twig)))

  -- the matches of the twig take as many bytes as the facts say
  match_bytes_lem : twig_check twig ≡ none → 2 * length (match_words (file_matches (file_clues names) store twig)) ≡ match_bytes names store twig
  unfolding file_matches full_list match_bytes
  match_bytes_lem asked =
      let t = read_twig twig in
      let ss = streams t (file_elements store) in
      let cl = file_clues names in
      let root = root_of (file_words store) in
      let words = match_words_lem cl root t (accepted_twig twig asked) ss (streams_labelled t) in
      ap (λ n. 2 * n) (words ∙ mul_assoc label_size (length t) (length (matches cl root t ss)))

-- by cases on which check of a list refuses: the first, or one of the others
by_first : {X : Type 0} (o : Option Refusal) (cs : List (Option Refusal)) (r : Refusal) → first (o ∷ cs) ≡ some r →
    (o ≡ some r → X) → (o ≡ none → first cs ≡ some r → X) → X
by_first o cs r e now later = ⊎_elim now (λ h. later h.0 h.1) (first_some o cs r e)

module _ (names store twig : List ℕ) where
  -- where no check of the program refuses, all facts hold
  all_hold : print_refusal names store twig ≡ none → Printable names store twig
  unfolding print_refusal
  all_hold e =
      let (named, e₁) = first_none _ _ e in
      let (size, e₂) = first_none _ _ e₁ in
      let (sound, e₃) = first_none _ _ e₂ in
      let (asked, e₄) = first_none _ _ e₃ in
      let (streamed, e₅) = first_none _ _ e₄ in
      let sized = (store_file_iff (length store)).0 size in
      record {
        named = named;
        sized = sized;
        sound = sound;
        asked = asked;
        stream_room = omega (arith, (buffer_iff _).0 streamed, stream_bytes_lem names store twig sized sound);
        match_room = omega (arith, (buffer_iff _).0 (first_none _ _ e₅).0, match_bytes_lem names store twig sized sound asked);
      }

  -- where all facts hold, no check of the program refuses
  none_refuses : Printable names store twig → print_refusal names store twig ≡ none
  unfolding print_refusal
  none_refuses p =
      first_passed _ _ p.named
      (first_passed _ _ ((store_file_iff (length store)).1 p.sized)
      (first_passed _ _ p.sound
      (first_passed _ _ p.asked
      (first_passed _ _ ((buffer_iff _).1 (omega (arith, p.stream_room, stream_bytes_lem names store twig p.sized p.sound)))
      (last_passed _ ((buffer_iff _).1 (omega (arith, p.match_room, match_bytes_lem names store twig p.sized p.sound p.asked))))))))

  module _ (r : Refusal) where
    -- a refusal of the program is that of the first fact that fails
    fact_fails : print_refusal names store twig ≡ some r → Unprintable names store twig r
    unfolding print_refusal
    fact_fails e =
        by_first _ _ r e bad_names (λ named e₁.
        by_first _ _ r e₁ (λ d. let (n, f) = (length_refuses (length store) r).0 d in bad_length named n f) (λ size e₂.
        let sized = (store_file_iff (length store)).0 size in
        by_first _ _ r e₂ (bad_record named sized) (λ sound e₃.
        by_first _ _ r e₃ (bad_twig named sized sound) (λ asked e₄.
        let streamed = stream_bytes_lem names store twig sized sound in
        let matched = match_bytes_lem names store twig sized sound asked in
        by_first _ _ r e₄ (λ d. let (n, f) = (buffer_refuses _ _ r streamed).0 d in long_streams named sized sound asked n f) (λ room e₅.
        let (n, f) = (buffer_refuses _ _ r matched).0 (sym (first_last _) ∙ e₅) in
        long_matches named sized sound asked (omega (arith, (buffer_iff _).0 room)) n f)))))

    -- where a fact fails and all before it hold, the program gives that fact's refusal
    first_refuses : Unprintable names store twig r → print_refusal names store twig ≡ some r
    unfolding print_refusal
    first_refuses (bad_names e) = first_here r _ _ e
    first_refuses (bad_length named n f) = first_rest _ _ named ∙ first_here r _ _ ((length_refuses (length store) r).1 (n, f))
    first_refuses (bad_record named sized e) = first_rest _ _ named ∙ first_rest _ _ ((store_file_iff (length store)).1 sized) ∙ first_here r _ _ e
    first_refuses (bad_twig named sized sound e) =
        first_rest _ _ named ∙ first_rest _ _ ((store_file_iff (length store)).1 sized) ∙ first_rest _ _ sound ∙ first_here r _ _ e
    first_refuses (long_streams named sized sound asked n f) =
        first_rest _ _ named ∙ first_rest _ _ ((store_file_iff (length store)).1 sized) ∙ first_rest _ _ sound ∙ first_rest _ _ asked ∙
        first_here r _ _ ((buffer_refuses _ _ r (stream_bytes_lem names store twig sized sound)).1 (n, f))
    first_refuses (long_matches named sized sound asked room n f) =
        first_rest _ _ named ∙ first_rest _ _ ((store_file_iff (length store)).1 sized) ∙ first_rest _ _ sound ∙ first_rest _ _ asked ∙
        first_rest _ _ ((buffer_iff _).1 (omega (arith, stream_bytes_lem names store twig sized sound))) ∙
        first_here r _ _ ((buffer_refuses _ _ r (match_bytes_lem names store twig sized sound asked)).1 (n, f))

  -- the program prints what the facts of its three files say
  pub print_holds : PrintHolds names store twig
  unfolding printed
  print_holds = record {
    takes = (all_hold, none_refuses);
    matches = λ p. taken _ _ _ (none_refuses p);
    refuses = λ r. (fact_fails r, first_refuses r);
    line = λ r u. unfold elim? in rw (first_refuses r u) refl;
  }
