-- The streams of elements: each has the labels of the elements that its name asks for.
use mathlib.Core.Path.{◌≡◌, refl, sym, ◌∙◌, ap}
use mathlib.Core.Logic.{◌↔◌}
use mathlib.Core.Bool.{Bool, true, false, cond, ◌&&◌}
use mathlib.Core.List.Memᴰ
use mathlib.Core.List.{List, [], map}
use mathlib.Core.Option.{Option, some, none}
use Prim.Native.Nat.{ℕ, ◌<◌}
use native.Mathlib.Omega.{arith}
use lib.ListN.{length, get_or, length-map, get_or-eq_default, get_or-map}
use lib.Dec.{T, ltb, ltb→lt, lt→ltb}
use Rattle.basics.specs.Basics.{◌∈◌, elim?, keep, up_to}
use Rattle.labelling.specs.Labels.{Label}
use Rattle.patterns.specs.Twigs.{Twig, node_at, is_leaf, wanted}
use Rattle.embeddings.specs.Matches.{asks}
use Rattle.storage.specs.Store.{Element}
use Rattle.cut_calls.specs.Cutting.{streams, stream}
use Rattle.basics.proofs.Tests.{Tells, passes, fails, tells}
use Rattle.basics.proofs.Lists.{nowhere, keep_iff}
use Rattle.basics.proofs.Ranges.{length-up_to, map-up_to}

-- the stream of node i: a leaf's is cut by its name, and an inner node or a number past the twig's end has none
streams_at : (t : Twig) (es : List Element) (i : ℕ) → get_or (streams t es) i [] ≡ cond (ltb i (length t) && is_leaf t i) (stream (node_at t i).name es) []
unfolding streams wanted elim?
streams_at t es i = go (ltb i (length t)) (tells (ltb i (length t)) (ltb→lt i (length t), lt→ltb i (length t)))
  where
    want : ℕ → Option ℕ
    want j = cond (is_leaf t j) (some (node_at t j).name) none

    cut : Option ℕ → List Label
    cut r = elim? r [] (λ name. stream name es)

    leaf : (c : Bool) → cut (cond c (some (node_at t i).name) none) ≡ cond c (stream (node_at t i).name es) []
    leaf true = refl
    leaf false = refl

    go : (c : Bool) → Tells (i < length t) c → get_or (map cut (map want (up_to (length t)))) i [] ≡ cond (c && is_leaf t i) (stream (node_at t i).name es) []
    go true (passes h) = get_or-map cut (map want (up_to (length t))) i none ∙ ap cut (map-up_to want none (length t) i h) ∙ leaf (is_leaf t i)
    go false (fails n) = get_or-map cut (map want (up_to (length t))) i none ∙
        ap cut (get_or-eq_default (map want (up_to (length t))) none (omega (arith, length-map (up_to (length t)) want, length-up_to (length t))))

-- the label is that of an element that a name asks for
abbrev pub Asked : ℕ → List Element → Label → Type 0
Asked want es l = (e : Element) × e ∈ es × T (asks want e.name) × (e.label ≡ l)

-- the stream of a name has the labels of the elements that the name asks for
stream_asked : (want : ℕ) (es : List Element) (l : Label) → l ∈ stream want es ↔ Asked want es l
unfolding stream
stream_asked want es l = (
  λ h.
      let (e, k, f) = Memᴰ.of_map (λ (e : Element). e.label) (keep (λ e. asks want e.name) es) h in
      let (m, a) = (keep_iff (λ (e : Element). asks want e.name) es e).0 k in
      (e, m, a, f),
  λ h.
      let (e, m, a, f) = h in
      Memᴰ.cast (sym f) (Memᴰ.map (λ (e : Element). e.label) ((keep_iff (λ (e : Element). asks want e.name) es e).1 (m, a))),
)

-- the stream of a leaf has the labels of the elements that its name asks for, that of an inner node none
pub streams_asked : (t : Twig) (es : List Element) (i : ℕ) (l : Label) →
    l ∈ get_or (streams t es) i [] ↔ (T (ltb i (length t) && is_leaf t i) × Asked (node_at t i).name es l)
streams_asked t es i l = rw streams_at (go (ltb i (length t) && is_leaf t i))
  where
    go : (c : Bool) → l ∈ cond c (stream (node_at t i).name es) [] ↔ (T c × Asked (node_at t i).name es l)
    go true = (λ h. (tt, (stream_asked (node_at t i).name es l).0 h), λ h. (stream_asked (node_at t i).name es l).1 h.1)
    go false = (λ h. absurd (nowhere h), λ h. absurd h.0)
