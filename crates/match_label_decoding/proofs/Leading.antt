-- Names led on along a label: at index j they are the names along its first j components.
use Prim.Native.Nat.{ℕ, ◌+◌, ◌<◌, ◌≤◌}
use mathlib.Core.Path.{◌≡◌, sym, ap, ◌∙◌}
use mathlib.Core.Bool.{true, false}
use mathlib.Core.List.{List, [], ◌∷◌, ◌++◌}
use mathlib.Core.Option.{some, some-injective}
use native.Mathlib.Omega.{arith}
use native.Mathlib.Numerals.{add-one}
use lib.ListN.{length, get_or, take, drop, set, take-append-drop}
use lib.Seq.{take_all, take-suc, take-suc-set, length-take-le}
use Rattle.std.specs.Prelude.{Some, None}
use Rattle.std.specs.Prelude as std
use Rattle.basics.specs.Basics.{elim?, last}
use Rattle.naming.specs.Names.{Clues, led}
use Rattle.basics.specs.Limits.{max_depth, label_size}
use Rattle.labelling.specs.Labels.{Label, path, stuck, decode}
use Rattle.labelling.proofs.Decode.{further, decode_snoc, decode_child, stuck_more, name_end}
use Rattle.bridges.specs.Options.{optional}
use Rattle.bridges.proofs.Options.{given_some, given_none}
use Rattle.match_label_decoding.specs.Streams.{Along, leads_on}
use Rattle.match_label_decoding.proofs.Along.{along_name}

module _ (cl : Clues) (root : ℕ) (l : Label) (j : ℕ) (ns : List ℕ) (along : Along cl root (take j l) ns) where
  module _ (h : length l ≤ j) where
    -- behind the last component the names are those along the whole label
    pub lead_along : Along cl root l ns
    lead_along = let all : take j l ≡ l = take_all j l h in ap (decode cl root) (sym all) ∙ along ∙ ap (λ m. path (take (length m + 1) ns)) all

    -- a label with names all along decodes to a path
    pub lead_end : true ≡ leads_on (decode cl root l)
    unfolding leads_on
    lead_end = rw lead_along

  module _ (h : j < length l) where
    -- the first j components are j
    long : length (take j l) ≡ j
    long = length-take-le j l (omega arith)

    -- the name reached by the first j components is the one at index j
    reached : last (take (length (take j l) + 1) ns) ≡ get_or ns j 0
    reached =
        some-injective _ _ (sym (name_end cl root (take j l) _ along) ∙ along_name cl root (take j l) ns along) ∙ ap (λ i. get_or ns i 0) long

    -- the first j + 1 components are the first j and component j
    next : take (j + 1) l ≡ take j l ++ (get_or l j 0 ∷ [])
    next = ap (λ n. take n l) (add-one j) ∙ take-suc l j 0 h

    module _ {x : std.Option ℕ} (is : x ≡ optional (led (cl (get_or ns j 0)) (get_or l j 0))) where
      -- where component j leads nowhere, the label is stuck
      pub lead_stuck : x ≡ None → false ≡ leads_on (decode cl root l)
      unfolding leads_on further elim?
      lead_stuck e =
          let now : decode cl root (take (j + 1) l) ≡ stuck (length (take (length (take j l) + 1) ns)) =
          ap (decode cl root) next ∙ decode_snoc cl root (take j l) (get_or l j 0) ∙
          rw (along, reached, given_none (led (cl (get_or ns j 0)) (get_or l j 0)) is e) in
          let all : decode cl root l ≡ stuck (length (take (length (take j l) + 1) ns)) =
          ap (decode cl root) (sym (take-append-drop (j + 1) l)) ∙ stuck_more cl root (take (j + 1) l) (drop (j + 1) l) _ now in
          rw all

      -- where component j leads to a name, that name written behind the others keeps them along the label
      pub lead_next : {c : ℕ} → x ≡ Some c → length l ≤ max_depth → length ns ≡ label_size → Along cl root (take (j + 1) l) (set ns (j + 1) c)
      lead_next {c} e deep room =
          let leads : led (cl (last (take (length (take j l) + 1) ns))) (get_or l j 0) ≡ some c =
          ap (λ n. led (cl n) (get_or l j 0)) reached ∙ given_some _ is e in
          let more : length (take (j + 1) l) ≡ j + 1 = length-take-le (j + 1) l (omega arith) in
          ap (decode cl root) next ∙ decode_child cl root (take j l) _ (get_or l j 0) c along leads ∙
          ap path (ap (λ i. take (i + 1) ns ++ (c ∷ [])) long ∙ sym (take-suc-set ns (j + 1) c (omega arith)) ∙
          ap (λ i. take i (set ns (j + 1) c)) (sym (add-one (j + 1)) ∙ ap (λ i. i + 1) (sym more)))
