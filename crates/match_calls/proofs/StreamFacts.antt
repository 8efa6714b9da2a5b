-- Refusal 20 by its facts: the sizes come first,
-- and then the first label, over the whole buffer, that 15, 16, name or order rules out.
use mathlib.Core.Path.{◌≡◌, refl, sym, ap, subst, ◌∙◌}
use mathlib.Core.Logic.Iff
use mathlib.Core.Logic.{◌↔◌, ◌⊎◌, inl, inr, ⊎_elim, by_cases}
use mathlib.Core.Bool.{Bool, true, false}
use mathlib.Core.List.{List, [], ◌∷◌}
use mathlib.Core.Option.{Option, none, some, none-ne-some, some-injective}
use Prim.Native.Nat.{ℕ, zero, suc, ◌+◌, ◌*◌, ◌-◌, ◌<◌, ◌≤◌}
use native.Mathlib.Decide.{dec_lt}
use native.Mathlib.Omega.{arith}
use lib.ListN.{length, get_or, take, drop}
use lib.Seq.{drop-drop}
use lib.Dec.{T, leb, leb→le, le→leb}
use Rattle.basics.specs.Basics.{elim?, all, total}
use Rattle.basics.specs.Limits.{label_size, max_records, any_name}
use Rattle.basics.specs.Refusals.{Refusal, refuse, check, first, bad_stream}
use Rattle.naming.specs.Names.{Clues}
use Rattle.labelling.specs.Labels.{Label, before, label_of, name_at}
use Rattle.patterns.specs.Twigs.{Twig, wanted, leaf_names}
use Rattle.match_calls.specs.Matching.{in_stream, stream_check, labels_check, streams_check}
use Rattle.basics.proofs.Tests.{eqb_alike, decide}
use Rattle.basics.proofs.Lists.{all_at}
use Rattle.labelling.proofs.LabelWords.{IsLabel, is_label_iff}
use Rattle.basics.proofs.Refusals.{check_failed, check_passed, first_next, first_here}
use Rattle.embeddings.proofs.Asking.{fits_iff}
use Rattle.match_calls.proofs.StreamChecks.{Later, in_stream_iff}

-- the facts that 15, 16, name and order ask of words in a stream, after the label before them
pub record Stands (cl : Clues) (root want : ℕ) (previous : Option Label) (ws : List ℕ) : Type 0 where
  pub label : IsLabel ws
  pub name : ℕ
  pub decodes : name_at cl root (label_of ws) ≡ some name
  pub asked : (want ≡ any_name) ⊎ (want ≡ name)
  pub later : (l : Label) → previous ≡ some l → T (before l (label_of ws))

-- a label comes after the previous one, if there is one, exactly if it comes after whatever label that is
later_iff : (previous : Option Label) (m : Label) → Later previous m ↔ ((l : Label) → previous ≡ some l → T (before l m))
unfolding elim?
later_iff none m = (λ h l e. absurd (none-ne-some l e), λ h. tt)
later_iff (some p) m = (λ h l e. subst (λ x. T (before x m)) (some-injective p l e) h, λ h. h p refl)

-- words may stand in a stream exactly if the facts that 15, 16, name and order ask of them hold
pub in_stream_facts : (cl : Clues) (root want : ℕ) (previous : Option Label) (ws : List ℕ) → T (in_stream cl root want previous ws) ↔ Stands cl root want previous ws
in_stream_facts cl root want previous ws = Iff.trans (in_stream_iff cl root want previous ws) (
  λ h.
      let (name, decodes, asked) = (fits_iff cl root want (label_of ws)).0 h.1 in
      record { label = (is_label_iff ws).0 h.0; name = name; decodes = decodes; asked = asked; later = (later_iff previous (label_of ws)).0 h.2 },
  λ s. ((is_label_iff ws).1 s.label, (fits_iff cl root want (label_of ws)).1 (s.name, s.decodes, s.asked), (later_iff previous (label_of ws)).1 s.later),
)

-- i is the first number below n at which a fact fails
pub record FirstOut (P : ℕ → Type 0) (n i : ℕ) : Type 0 where
  pub inside : i < n
  pub out : P i → ⊥
  pub earlier : (j : ℕ) → j < i → P j

-- A check of n labels, the first of them label i of the buffer, settles them:
-- it passes where the fact of each holds, and refuses by 20 at the first whose fact fails.
abbrev Settles : (ℕ → Type 0) → ℕ → ℕ → Option Refusal → Type 0
Settles P n i o = ((o ≡ none) × ((j : ℕ) → j < n → P j)) ⊎ ((j : ℕ) × (o ≡ refuse bad_stream (i + j)) × FirstOut P n j)

-- a check of no labels settles them by passing
settles_none : {P : ℕ → Type 0} (i : ℕ) → Settles P 0 i none
settles_none i = inl (refl, λ j h. absurd (omega arith))

-- a check of one label settles it by its fact
settles_one : {P : ℕ → Type 0} (b : Bool) (i : ℕ) → T b ↔ P 0 → Settles P 1 i (check b bad_stream i)
settles_one {P} b i e = ⊎_elim
    (λ t. inl (check_passed b bad_stream i t, λ j h. let z : 0 ≡ j = omega arith in subst P z (e.0 t)))
    (λ n.
    let place : i ≡ i + 0 = omega arith in
    let first_out : FirstOut P 1 0 = record { inside = omega arith; out = λ p. n (e.1 p); earlier = λ j h. absurd (omega arith) } in
    inr (0, check_failed b bad_stream i n ∙ ap (refuse bad_stream) place, first_out))
    (decide b)

-- a check that settles labels by some facts settles them by facts that hold in the same cases
settles_alike : {P Q : ℕ → Type 0} (n i : ℕ) (o : Option Refusal) → ((j : ℕ) → j < n → P j ↔ Q j) → Settles P n i o → Settles Q n i o
settles_alike n i o alike (inl (e, h)) = inl (e, λ j p. (alike j p).0 (h j p))
settles_alike n i o alike (inr (j, e, f)) = inr (
  j,
  e,
  record {
    inside = f.inside;
    out = λ q. f.out ((alike j f.inside).1 q);
    earlier = λ k p. (alike k (omega (arith, f.inside))).0 (f.earlier k p);
  },
)

-- a check of m labels and one of the n behind them settle all m + n
settles_both : {P Q : ℕ → Type 0} (m n i : ℕ) (a b : Option Refusal) {sum next : ℕ} → m + n ≡ sum → i + m ≡ next → ((j : ℕ) → Q j ↔ P (m + j)) →
    Settles P m i a → Settles Q n next b → Settles P sum i (first (a ∷ b ∷ []))
settles_both {P} {Q} m n i a b {sum} {next} whole after alike now later = go now later
  where
    join : (s : ℕ) → ((j : ℕ) → j < m → P j) → ((j : ℕ) → m + j < s → Q j) → (j : ℕ) → j < s → P j
    join s h k j p = by_cases (dec_lt j m) (h j) (λ q.
        let e : m + (j - m) ≡ j = omega arith in subst P e ((alike (j - m)).0 (k (j - m) (omega arith))))

    go : Settles P m i a → Settles Q n next b → Settles P sum i (first (a ∷ b ∷ []))
    go (inr (j, e, f)) l = inr (j, first_here _ a (b ∷ []) e, record { inside = omega (arith, f.inside); out = f.out; earlier = f.earlier })
    go (inl (e, h)) (inl (d, k)) = inl (first_next a b e ∙ d, join sum h (λ j p. k j (omega arith)))
    go (inl (e, h)) (inr (j, d, f)) =
        let place : next + j ≡ i + (m + j) = omega arith in
        inr (
          m + j,
          first_next a b e ∙ d ∙ ap (refuse bad_stream) place,
          record {
            inside = omega (arith, f.inside);
            out = λ p. f.out ((alike j).1 p);
            earlier = join (m + j) h (λ k p. f.earlier k (omega arith));
          },
        )

-- the words of label j of a buffer
abbrev pub words_of : ℕ → List ℕ → List ℕ
words_of j ws = take label_size (drop (j * label_size) ws)

-- the label before label j of a stream; before the first, the one handed in
unfoldable pub label_past : Option Label → ℕ → List ℕ → Option Label
label_past previous zero ws = previous
label_past previous (suc j) ws = some (label_of (words_of j ws))

-- the words of a later label are found among the words behind the first label
words_later : (j : ℕ) (ws : List ℕ) → words_of j (drop label_size ws) ≡ words_of (suc j) ws
words_later j ws =
    let s : label_size + j * label_size ≡ suc j * label_size = omega arith in
    ap (take label_size) (drop-drop (j * label_size) label_size ws ∙ ap (λ m. drop m ws) s)

-- the label before a later one is found among the words behind the first label
past_later : (previous : Option Label) (j : ℕ) (ws : List ℕ) → label_past (some (label_of (take label_size ws))) j (drop label_size ws) ≡ label_past previous (suc j) ws
unfolding label_past
past_later previous zero ws = refl
past_later previous (suc j) ws = ap (λ w. some (label_of w)) (words_later j ws)

-- label i of a buffer is label k of the stream of leaf q: each stream begins where the one before ended
pub record Place (counts : List ℕ) (i q k : ℕ) : Type 0 where
  pub leaf : q < length counts
  pub inside : k < get_or counts q 0
  pub sum : i ≡ total (take q counts) + k

module _ (cl : Clues) (root : ℕ) where
  -- label j of a stream may stand in it
  abbrev pub StandsIn : ℕ → Option Label → List ℕ → ℕ → Type 0
  StandsIn want previous ws j = Stands cl root want (label_past previous j ws) (words_of j ws)

  -- label i of a buffer may stand in the stream that it belongs to
  abbrev pub StandsAt : List ℕ → List ℕ → List ℕ → ℕ → Type 0
  StandsAt wants counts ws i = (q k : ℕ) → Place counts i q k → StandsIn (get_or wants q 0) none (drop (label_size * total (take q counts)) ws) k

  -- the check of one stream settles the stream's labels
  stream_settles : (want n i : ℕ) (previous : Option Label) (ws : List ℕ) → Settles (StandsIn want previous ws) n i (stream_check cl root want i previous n ws)
  unfolding stream_check label_past
  stream_settles want zero i previous ws = settles_none i
  stream_settles want (suc n) i previous ws =
      settles_both 1 n i _ _ (omega arith) (omega arith) later
      (settles_one (in_stream cl root want previous (take label_size ws)) i (in_stream_facts cl root want previous (take label_size ws)))
      (stream_settles want n (suc i) (some (label_of (take label_size ws))) (drop label_size ws))
    where
      same : (j : ℕ) → StandsIn want (some (label_of (take label_size ws))) (drop label_size ws) j ≡ StandsIn want previous ws (1 + j)
      same j = let e : suc j ≡ 1 + j = omega arith in rw (past_later previous j ws, words_later j ws) (ap (StandsIn want previous ws) e)

      later : (j : ℕ) → StandsIn want (some (label_of (take label_size ws))) (drop label_size ws) j ↔ StandsIn want previous ws (1 + j)
      later j = rw (same j) Iff.rfl

  -- a label of the first stream may stand in the buffer exactly if it may stand in that stream
  in_first : (want c : ℕ) (wants counts ws : List ℕ) (j : ℕ) → j < c → StandsIn want none ws j ↔ StandsAt (want ∷ wants) (c ∷ counts) ws j
  unfolding total
  in_first want c wants counts ws j p = (λ h q k at. there q k at h, λ h. h 0 j (record { leaf = omega arith; inside = p; sum = omega arith }))
    where
      there : (q k : ℕ) → Place (c ∷ counts) j q k → StandsIn want none ws j →
          StandsIn (get_or (want ∷ wants) q 0) none (drop (label_size * total (take q (c ∷ counts))) ws) k
      there zero k at h = let e : j ≡ k = omega (arith, at.sum) in subst (StandsIn want none ws) e h
      there (suc q) k at h = absurd (omega (arith, at.sum))

  -- a label of a later stream may stand in the buffer exactly if it may stand in the buffer behind the first stream
  in_later : (want c : ℕ) (wants counts ws : List ℕ) (j : ℕ) → StandsAt wants counts (drop (label_size * c) ws) j ↔ StandsAt (want ∷ wants) (c ∷ counts) ws (c + j)
  unfolding total
  in_later want c wants counts ws j = (
    λ h q k at. there h q k at,
    λ h q k at. subst (λ l. StandsIn (get_or wants q 0) none l k) (sym (behind q))
        (h (suc q) k (record { leaf = omega (arith, at.leaf); inside = at.inside; sum = omega (arith, at.sum) })),
  )
    where
      behind : (q : ℕ) → drop (label_size * total (take q counts)) (drop (label_size * c) ws) ≡ drop (label_size * (c + total (take q counts))) ws
      behind q =
          let e : label_size * c + label_size * total (take q counts) ≡ label_size * (c + total (take q counts)) = omega arith in
          drop-drop (label_size * total (take q counts)) (label_size * c) ws ∙ ap (λ m. drop m ws) e

      there : StandsAt wants counts (drop (label_size * c) ws) j → (q k : ℕ) → Place (c ∷ counts) (c + j) q k →
          StandsIn (get_or (want ∷ wants) q 0) none (drop (label_size * total (take q (c ∷ counts))) ws) k
      there h zero k at = absurd (omega (arith, at.sum, at.inside))
      there h (suc q) k at = subst (λ l. StandsIn (get_or wants q 0) none l k) (behind q)
          (h q k (record { leaf = omega (arith, at.leaf); inside = at.inside; sum = omega (arith, at.sum) }))

  -- the check of the streams, with a count for each leaf, settles the labels of the buffer
  labels_settle : (rs : List (Option ℕ)) (i : ℕ) (counts ws : List ℕ) → length counts ≡ length (leaf_names rs) →
      Settles (StandsAt (leaf_names rs) counts ws) (total counts) i (labels_check cl root i rs counts ws)
  unfolding labels_check leaf_names total
  labels_settle [] i [] ws e = settles_none i
  labels_settle [] i (c ∷ counts) ws e = absurd (omega arith)
  labels_settle (none ∷ rs) i counts ws e = labels_settle rs i counts ws e
  labels_settle (some want ∷ rs) i [] ws e = absurd (omega arith)
  labels_settle (some want ∷ rs) i (c ∷ counts) ws e =
      settles_both c (total counts) i _ _ refl refl (in_later want c (leaf_names rs) counts ws)
      (settles_alike c i _ (in_first want c (leaf_names rs) counts ws) (stream_settles want c i none ws))
      (labels_settle rs (i + c) counts (drop (label_size * c) ws) (omega arith))

-- the facts of refusal 20 before the labels: one count for each leaf, none over 4,096, 16 words for each label
pub record StreamSizes (t : Twig) (counts buffer : List ℕ) : Type 0 where
  pub each : length counts ≡ length (leaf_names (wanted t))
  pub few : (i : ℕ) → i < length counts → get_or counts i 0 ≤ max_records
  pub whole : length buffer ≡ label_size * total counts

-- three checks by 20 at place 0 refuse where one of their facts fails, and leave the rest to the next where all hold
three_checks : {P Q R : Type 0} (a b c : Bool) (o : Option Refusal) → T a ↔ P → T b ↔ Q → T c ↔ R →
    let all = first (check a bad_stream 0 ∷ check b bad_stream 0 ∷ check c bad_stream 0 ∷ o ∷ []) in
    ((P × Q × R) × (all ≡ o)) ⊎ (((P × Q × R) → ⊥) × (all ≡ refuse bad_stream 0))
unfolding check first
three_checks true true true none e f g = inl ((e.0 tt, f.0 tt, g.0 tt), refl)
three_checks true true true (some r) e f g = inl ((e.0 tt, f.0 tt, g.0 tt), refl)
three_checks true true false o e f g = inr (λ h. g.1 h.2, refl)
three_checks true false c o e f g = inr (λ h. f.1 h.1, refl)
three_checks false b c o e f g = inr (λ h. e.1 h.0, refl)

-- the first number at which a fact fails is one only
first_out_once : {P : ℕ → Type 0} {n i j : ℕ} → FirstOut P n i → FirstOut P n j → i ≡ j
first_out_once {P} {n} {i} {j} f g = by_cases (dec_lt i j) (λ p. absurd (f.out (g.earlier i p)))
    (λ p. by_cases (dec_lt j i) (λ q. absurd (g.out (f.earlier j q))) (λ q. omega arith))

-- a refusal is known by its number and its place
refusal_with : (r : Refusal) {n place : ℕ} → r.number ≡ n → r.place ≡ place → refuse n place ≡ some r
refusal_with r e f = λ i. some (record { number = sym e i; place = sym f i })

module _ (cl : Clues) (root : ℕ) (t : Twig) (counts buffer : List ℕ) where
  -- label i of the buffer may stand in the stream of its leaf
  abbrev pub MayStand : ℕ → Type 0
  MayStand = StandsAt cl root (leaf_names (wanted t)) counts buffer

  -- where the sizes are right the check settles the labels of the buffer, and else it refuses by 20 at 0
  abbrev Settled : Type 0
  Settled =
      (StreamSizes t counts buffer × Settles MayStand (total counts) 0 (streams_check cl root t counts buffer))
      ⊎ ((StreamSizes t counts buffer → ⊥) × (streams_check cl root t counts buffer ≡ refuse bad_stream 0))

  -- the check of the streams settles the labels of the buffer where the sizes are right, and else refuses by 20 at 0
  streams_settle : Settled
  unfolding streams_check
  streams_settle = ⊎_elim
      (λ h. let ((each, few, whole), e) = h in
      inl (record { each = each; few = few; whole = whole }, subst (Settles MayStand (total counts) 0) (sym e) (labels_settle cl root (wanted t) 0 counts buffer each)))
      (λ h. inr (λ s. h.0 (s.each, s.few, s.whole), h.1))
      (three_checks _ (all (λ c. leb c max_records) counts) _ (labels_check cl root 0 (wanted t) counts buffer)
      (eqb_alike (length counts) (length (leaf_names (wanted t)))) few_iff (eqb_alike (length buffer) (label_size * total counts)))
    where
      few_iff : T (all (λ c. leb c max_records) counts) ↔ ((i : ℕ) → i < length counts → get_or counts i 0 ≤ max_records)
      few_iff = let a = all_at (λ c. leb c max_records) 0 counts in (λ h i p. leb→le _ _ (a.0 h i p), λ h. a.1 (λ i p. le→leb _ _ (h i p)))

  -- streams are accepted exactly if the sizes are right and each label may stand where it stands
  pub streams_check_iff : streams_check cl root t counts buffer ≡ none ↔ (StreamSizes t counts buffer × ((i : ℕ) → i < total counts → MayStand i))
  streams_check_iff = go streams_settle
    where
      go : Settled → streams_check cl root t counts buffer ≡ none ↔ (StreamSizes t counts buffer × ((i : ℕ) → i < total counts → MayStand i))
      go (inl (s, inl (e, h))) = (λ d. (s, h), λ f. e)
      go (inl (s, inr (j, e, f))) = (λ d. absurd (none-ne-some _ (sym d ∙ e)), λ h. absurd (f.out (h.1 j f.inside)))
      go (inr (n, e)) = (λ d. absurd (none-ne-some _ (sym d ∙ e)), λ h. absurd (n h.0))

  -- why 20 is given at a place: at 0 where the sizes are not right,
  -- and where they are right, at the first label that may not stand
  abbrev pub StreamsOut : ℕ → Type 0
  StreamsOut place = ((StreamSizes t counts buffer → ⊥) × (place ≡ 0)) ⊎ (StreamSizes t counts buffer × FirstOut MayStand (total counts) place)

  -- streams are refused by 20 and by no other number, and exactly at the place where 20 is due
  pub streams_check_refused : (r : Refusal) → streams_check cl root t counts buffer ≡ some r ↔ ((r.number ≡ bad_stream) × StreamsOut r.place)
  streams_check_refused r = go streams_settle
    where
      number : {place : ℕ} → refuse bad_stream place ≡ some r → bad_stream ≡ r.number
      number e = ap (λ (s : Refusal). s.number) (some-injective _ r e)

      place : {place : ℕ} → refuse bad_stream place ≡ some r → place ≡ r.place
      place e = ap (λ (s : Refusal). s.place) (some-injective _ r e)

      go : Settled → streams_check cl root t counts buffer ≡ some r ↔ ((r.number ≡ bad_stream) × StreamsOut r.place)
      go (inl (s, inl (e, h))) = (λ d. absurd (none-ne-some _ (sym e ∙ d)), λ o. absurd (⊎_elim (λ p. p.0 s) (λ p. p.1.out (h _ p.1.inside)) o.1))
      go (inl (s, inr (j, e, f))) =
          let z : 0 + j ≡ j = omega arith in (
            λ d. (sym (number (sym e ∙ d)), inr (s, subst (FirstOut MayStand (total counts)) (sym z ∙ place (sym e ∙ d)) f)),
            λ o. ⊎_elim (λ p. absurd (p.0 s)) (λ p. e ∙ refusal_with r o.0 (first_out_once p.1 f ∙ sym z)) o.1,
          )
      go (inr (n, e)) = (
        λ d. (sym (number (sym e ∙ d)), inl (n, sym (place (sym e ∙ d)))),
        λ o. ⊎_elim (λ p. e ∙ refusal_with r o.0 p.1) (λ p. absurd (n p.0)) o.1,
      )
