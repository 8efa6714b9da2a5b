-- Elements of which each but the root's stands right below another:
-- every label above an element's is an element's, and an element's label decodes to the names on its way.
use mathlib.Core.Path.{◌≡◌, refl, sym, ap, subst, ◌∙◌}
use mathlib.Core.List.{List, [], ◌∷◌, ◌++◌, append-nil, append_assoc, map, map-map}
use mathlib.Core.Option.{Option, none, some, some-injective}
use Prim.Native.Nat.{ℕ}
use lib.Dec.{T}
use Rattle.basics.specs.Basics.{◌∈◌, elim?}
use Rattle.naming.specs.Names.{Clues, led}
use Rattle.labelling.specs.Labels.{Label, within, decode, path, behind, name_at}
use Rattle.embeddings.specs.Matches.{prefixes}
use Rattle.storage.specs.Store.{Element, find, element_at}
use Rattle.model.specs.Trees.{names_to}
use Rattle.labelling.proofs.LabelOrder.{within_iff, within_self}
use Rattle.labelling.proofs.Decode.{name_child, name_cons}
use Rattle.storage.proofs.SoundStore.{SoundElements, name_root}
use Rattle.storage.proofs.Finding.{find_none, find_mem}

-- a label stays within another where both get the same component in front
one_deeper : (x : ℕ) (up low : Label) → T (within up low) → T (within (x ∷ up) (x ∷ low))
one_deeper x up low w = let (rest, e) = (within_iff up low).0 w in (within_iff (x ∷ up) (x ∷ low)).1 (rest, ap (◌∷◌ x) e)

-- the empty label decodes to the name that decoding starts at
first_name : (cl : Clues) (p : ℕ) (f : Label → ℕ) → name_at cl p [] ≡ some (f []) → p ≡ f []
first_name cl p f e = some-injective p (f []) (sym (name_root cl p) ∙ e)

-- a label of which every prefix decodes to a name decodes to the path of these names
decode_prefixes : (cl : Clues) (p : ℕ) (l : Label) (f : Label → ℕ) → ((q : Label) → T (within q l) → name_at cl p q ≡ some (f q)) →
    decode cl p l ≡ path (map f (prefixes l))
unfolding decode prefixes behind elim?
decode_prefixes cl p [] f h = ap (λ n. path (n ∷ [])) (first_name cl p f (h [] (within_self [])))
decode_prefixes cl p (x ∷ l) f h =
    let c : ℕ = f (x ∷ []) in
    let leads : led (cl p) x ≡ some c = sym (name_child cl p [] x p (name_root cl p)) ∙ h (x ∷ []) ((within_iff (x ∷ []) (x ∷ l)).1 (l, refl)) in
    let below = decode_prefixes cl c l (λ q. f (x ∷ q)) (λ q w. sym (name_cons cl p x c q leads) ∙ h (x ∷ q) (one_deeper x q l w)) in
    rw (leads, below, first_name cl p f (h [] ((within_iff [] (x ∷ l)).1 (x ∷ l, refl))), map-map f (◌∷◌ x) (prefixes l))

-- some element has the label
abbrev pub Has : List Element → Label → Type 0
Has es l = (e : Element) × e ∈ es × (e.label ≡ l)

-- right above every element but the root's stands another element
abbrev pub Rooted : List Element → Type 0
Rooted es = (e : Element) → e ∈ es → (up : Label) (c : ℕ) → e.label ≡ up ++ (c ∷ []) → Has es up

module _ (es : List Element) (rooted : Rooted es) where
  -- a label that an element's label goes on from is an element's
  front : (rest up : Label) → Has es (up ++ rest) → Has es up
  front [] up h = subst (Has es) (append-nil up) h
  front (c ∷ rest) up h =
      let (e, m, f) = front rest (up ++ (c ∷ [])) (subst (Has es) (sym (append_assoc up (c ∷ []) rest)) h) in
      rooted e m up c f

  -- every label above an element's is an element's
  pub ancestor : (e : Element) → e ∈ es → (up : Label) → T (within up e.label) → Has es up
  ancestor e m up w = let (rest, f) = (within_iff up e.label).0 w in front rest up (e, m, f)

module _ {cl : Clues} {root : ℕ} {es : List Element} (sound : SoundElements cl root es) where
  -- a label that an element has decodes to the name of the element found for it
  name_found : (l : Label) → Has es l → name_at cl root l ≡ some (element_at l es).name
  unfolding element_at elim?
  name_found l h = go (find l es) refl
    where
      go : (o : Option Element) → find l es ≡ o →
          name_at cl root l ≡ some (elim? o (record { label = []; name = 0; next = 0; payload0 = 0; payload1 = 0 }) (λ e. e)).name
      go none n = let (e, m, f) = h in absurd ((find_none l es).0 n e m f)
      go (some e) s = let (m, f) = find_mem l es e s in ap (name_at cl root) (sym f) ∙ sound.named e m

  -- an element's label decodes to the names on its way from the root
  pub decode_names : Rooted es → (e : Element) → e ∈ es → decode cl root e.label ≡ path (names_to es e.label)
  unfolding names_to
  decode_names rooted e m = decode_prefixes cl root e.label (λ l. (element_at l es).name) (λ l w. name_found l (ancestor es rooted e m l w))
