-- Decoding, one component more at the end or in front, and where a label is stuck.
use mathlib.Core.Path.{◌≡◌, refl, sym, ap, subst, ◌∙◌}
use mathlib.Core.Logic.{◌↔◌}
use mathlib.Core.List.{List, [], ◌∷◌, ◌++◌, append-nil, append_assoc}
use mathlib.Core.Option.{Option, none, some}
use Prim.Native.Nat.{ℕ, zero, suc, ◌+◌, ◌-◌, ◌≤◌, ◌<◌}
use native.Mathlib.Omega.{arith}
use lib.ListN.{length, get_or, take, drop, take-append-drop}
use lib.Seq.{drop-cons, length-take-le}
use Rattle.basics.specs.Basics.{elim?, last}
use Rattle.naming.specs.Names.{Clues, led}
use Rattle.labelling.specs.Labels.{Label, Decoded, path, stuck, behind, decode, end_of, name_at}
use Rattle.naming.proofs.NameTables.{led_none}
use Rattle.basics.proofs.Lists.{last_snoc}

-- what a label decodes to, led on by one component more
unfoldable pub further : Clues → Decoded → ℕ → Decoded
further cl (path ns) k = elim? (led (cl (last ns)) k) (stuck (length ns)) (λ c. path (ns ++ (c ∷ [])))
further cl (stuck i) k = stuck i

-- equal paths have equal names
pub path_names : {ms ns : List ℕ} → path ms ≡ path ns → ms ≡ ns
path_names e = cc

-- a label that is stuck has no path
pub stuck_path : {i : ℕ} {ns : List ℕ} → stuck i ≡ path ns → ⊥
stuck_path e = let z : ◌≡◌ {A = ℕ} 0 1 = cc in omega arith

-- the last of a list of two or more is the last of its rest
last_cons : (x y : ℕ) (ys : List ℕ) → last (x ∷ y ∷ ys) ≡ last (y ∷ ys)
unfolding last
last_cons x y ys =
    let e : suc (suc (length ys)) - 1 ≡ suc (length ys) = omega arith in
    let f : suc (length ys) - 1 ≡ length ys = omega arith in
    rw (e, f)

-- a path begins with the name it starts at, and has one name more than the label has components
pub record Starts (p : ℕ) (l : Label) (d : Decoded) : Type 0 where
  pub begins : (ns : List ℕ) → d ≡ path ns → (rest : List ℕ) × (ns ≡ p ∷ rest) × (length rest ≡ length l)
  -- a label that is stuck is stuck at one of its components
  pub stops : (i : ℕ) → d ≡ stuck i → (1 ≤ i) × (i ≤ length l)

-- what a label decodes to begins with the name it starts at, or is stuck at one of its components
pub starts : (cl : Clues) (p : ℕ) (l : Label) → Starts p l (decode cl p l)
unfolding decode behind elim?
starts cl p [] = record { begins = λ ns e. ([], sym (path_names e), refl); stops = λ i e. absurd (stuck_path (sym e)) }
starts cl p (x ∷ l) = go (λ c. starts cl c l) (led (cl p) x)
  where
    met : {c : ℕ} (d : Decoded) → Starts c l d → Starts p (x ∷ l) (behind p d)
    met (path ms) s = record {
      begins = λ ns e. let (rest, f, n) = s.begins ms refl in (ms, sym (path_names e), ap length f ∙ ap suc n);
      stops = λ i e. absurd (stuck_path (sym e));
    }
    met (stuck j) s = record {
      begins = λ ns e. absurd (stuck_path e);
      stops = λ i e. let (a, b) = s.stops j refl in let f : suc j ≡ i = cc in omega arith;
    }

    go : ((c : ℕ) → Starts c l (decode cl c l)) → (o : Option ℕ) → Starts p (x ∷ l) (elim? o (stuck 1) (λ c. behind p (decode cl c l)))
    go ih none = record { begins = λ ns e. absurd (stuck_path e); stops = λ i e. let f : ◌≡◌ {A = ℕ} 1 i = cc in omega arith }
    go ih (some c) = met (decode cl c l) (ih c)

-- putting a name in front and leading on by a component at the end give the same in either order
behind_further : (cl : Clues) (p : ℕ) {c : ℕ} {l : Label} (d : Decoded) → Starts c l d → (k : ℕ) → behind p (further cl d k) ≡ further cl (behind p d) k
unfolding further behind elim?
behind_further cl p (stuck i) s k = refl
behind_further cl p (path []) s k = let (rest, e, n) = s.begins [] refl in absurd (omega (arith, ap length e))
behind_further cl p (path (n ∷ ns)) s k = rw last_cons (go (led (cl (last (n ∷ ns))) k))
  where
    go : (o : Option ℕ) →
        behind p (elim? o (stuck (length (n ∷ ns))) (λ c. path (n ∷ (ns ++ (c ∷ []))))) ≡
        elim? o (stuck (length (p ∷ n ∷ ns))) (λ c. path (p ∷ n ∷ (ns ++ (c ∷ []))))
    go none = refl
    go (some c) = refl

-- a label with one component more decodes to what the label decodes to, led on by that component
pub decode_snoc : (cl : Clues) (p : ℕ) (l : Label) (k : ℕ) → decode cl p (l ++ (k ∷ [])) ≡ further cl (decode cl p l) k
unfolding decode further elim? behind last
decode_snoc cl p [] k = refl
decode_snoc cl p (x ∷ l) k = go (λ c. decode_snoc cl c l k) (led (cl p) x)
  where
    go : ((c : ℕ) → decode cl c (l ++ (k ∷ [])) ≡ further cl (decode cl c l) k) → (o : Option ℕ) →
        elim? o (stuck 1) (λ c. behind p (decode cl c (l ++ (k ∷ [])))) ≡ further cl (elim? o (stuck 1) (λ c. behind p (decode cl c l))) k
    go ih none = refl
    go ih (some c) = ap (behind p) (ih c) ∙ behind_further cl p (decode cl c l) (starts cl c l) k

-- a label that goes on from a stuck one is stuck at the same component
pub stuck_more : (cl : Clues) (p : ℕ) (l m : Label) (i : ℕ) → decode cl p l ≡ stuck i → decode cl p (l ++ m) ≡ stuck i
stuck_more cl p l [] i e = ap (decode cl p) (append-nil l) ∙ e
stuck_more cl p l (x ∷ m) i e =
    ap (decode cl p) (sym (append_assoc l (x ∷ []) m)) ∙
    stuck_more cl p (l ++ (x ∷ [])) m i (decode_snoc cl p l x ∙ ap (λ d. further cl d x) e ∙ unfold further in refl)

-- the names along a label are the first of those along any label that goes on from it
pub decode_front : (cl : Clues) (p : ℕ) (l m : Label) (ns : List ℕ) → decode cl p (l ++ m) ≡ path ns → decode cl p l ≡ path (take (suc (length l)) ns)
unfolding decode behind elim?
decode_front cl p [] m ns e = let (rest, f, n) = (starts cl p m).begins ns e in rw f
decode_front cl p (x ∷ l) m ns e = go (λ c. decode_front cl c l m) (led (cl p) x) e
  where
    met : (c : ℕ) (d : Decoded) → ((ms : List ℕ) → d ≡ path ms → decode cl c l ≡ path (take (suc (length l)) ms)) → behind p d ≡ path ns →
        behind p (decode cl c l) ≡ path (take (suc (suc (length l))) ns)
    met c (path ms) ih e = rw (ih ms refl, ← path_names e)
    met c (stuck i) ih e = absurd (stuck_path e)

    go : ((c : ℕ) (ms : List ℕ) → decode cl c (l ++ m) ≡ path ms → decode cl c l ≡ path (take (suc (length l)) ms)) → (o : Option ℕ) →
        elim? o (stuck 1) (λ c. behind p (decode cl c (l ++ m))) ≡ path ns →
        elim? o (stuck 1) (λ c. behind p (decode cl c l)) ≡ path (take (suc (suc (length l))) ns)
    go ih none e = absurd (stuck_path e)
    go ih (some c) e = met c (decode cl c (l ++ m)) (ih c) e

-- a component that leads to a name makes the path one name longer
pub decode_child : (cl : Clues) (p : ℕ) (l : Label) (ns : List ℕ) (k c : ℕ) → decode cl p l ≡ path ns → led (cl (last ns)) k ≡ some c →
    decode cl p (l ++ (k ∷ [])) ≡ path (ns ++ (c ∷ []))
unfolding further elim?
decode_child cl p l ns k c e h = decode_snoc cl p l k ∙ rw (e, h)

-- the last name of a path is what the last component leads to from the last name of the path above
pub led_end : (cl : Clues) (p : ℕ) (l : Label) (ns ms : List ℕ) (k : ℕ) → decode cl p l ≡ path ns → decode cl p (l ++ (k ∷ [])) ≡ path ms →
    led (cl (last ns)) k ≡ some (last ms)
unfolding further elim?
led_end cl p l ns ms k e f = go (led (cl (last ns)) k) (sym (ap (λ d. further cl d k) e) ∙ sym (decode_snoc cl p l k) ∙ f)
  where
    go : (o : Option ℕ) → elim? o (stuck (length ns)) (λ c. path (ns ++ (c ∷ []))) ≡ path ms → o ≡ some (last ms)
    go none e = absurd (stuck_path e)
    go (some c) e = ap some (sym (last_snoc ns c) ∙ ap last (path_names e))

-- a label that decodes to a path decodes to the path's last name
pub name_end : (cl : Clues) (p : ℕ) (l : Label) (ns : List ℕ) → decode cl p l ≡ path ns → name_at cl p l ≡ some (last ns)
unfolding name_at end_of
name_end cl p l ns e = rw e

-- the name that a child's label decodes to is the one that its last component leads to
pub name_child : (cl : Clues) (p : ℕ) (l : Label) (k n : ℕ) → name_at cl p l ≡ some n → name_at cl p (l ++ (k ∷ [])) ≡ led (cl n) k
unfolding name_at end_of further elim?
name_child cl p l k n e = ap end_of (decode_snoc cl p l k) ∙ go (decode cl p l) e
  where
    end : (ns : List ℕ) (o : Option ℕ) → end_of (elim? o (stuck (length ns)) (λ c. path (ns ++ (c ∷ [])))) ≡ o
    end ns none = refl
    end ns (some c) = ap some (last_snoc ns c)

    go : (d : Decoded) → end_of d ≡ some n → end_of (further cl d k) ≡ led (cl n) k
    go (path ns) e = let f : last ns ≡ n = cc in rw f (end ns (led (cl n) k))
    go (stuck i) e = let z : ◌≡◌ {A = Option ℕ} none (some n) = e in cc

-- a label decodes to the name that its rest decodes to from the name that its first component leads to
pub name_cons : (cl : Clues) (p x c : ℕ) (l : Label) → led (cl p) x ≡ some c → name_at cl p (x ∷ l) ≡ name_at cl c l
unfolding name_at end_of decode behind elim?
name_cons cl p x c l e = rw e (go (decode cl c l) (starts cl c l))
  where
    go : (d : Decoded) → Starts c l d → end_of (behind p d) ≡ end_of d
    go (path []) s = let (rest, e, n) = s.begins [] refl in absurd (omega (arith, ap length e))
    go (path (n ∷ ns)) s = ap some (last_cons p n ns)
    go (stuck i) s = refl

-- a path has one name more than its label has components
pub path_length : (cl : Clues) (p : ℕ) (l : Label) (ns : List ℕ) → decode cl p l ≡ path ns → length ns ≡ length l + 1
path_length cl p l ns e = let (rest, f, n) = (starts cl p l).begins ns e in omega (arith, ap length f)

-- the fact of refusal 16 for a component: the j components before it lead to a name with an empty clue
pub record BelowEmpty (cl : Clues) (p : ℕ) (l : Label) (j : ℕ) : Type 0 where
  pub inside : j < length l
  pub names : List ℕ
  pub reached : decode cl p (take j l) ≡ path names
  pub empty : cl (last names) ≡ []

-- a component below an empty clue stays so where a component that leads to the starting name is put in front
below_later : (cl : Clues) (p c x : ℕ) (l : Label) (j : ℕ) → led (cl p) x ≡ some c → BelowEmpty cl c l j → BelowEmpty cl p (x ∷ l) (suc j)
unfolding decode behind elim?
below_later cl p c x l j d b = record {
  inside = omega (arith, b.inside);
  names = p ∷ b.names;
  reached = rw (d, b.reached);
  empty = let (rest, e, n) = (starts cl c (take j l)).begins b.names b.reached in rw (e, last_cons p c rest, ← e) b.empty;
}

-- a label that is stuck is stuck at a component below a name with an empty clue
stuck_below : (cl : Clues) (p : ℕ) (l : Label) (j : ℕ) → decode cl p l ≡ stuck (suc j) → BelowEmpty cl p l j
unfolding decode behind elim? last
stuck_below cl p [] j e = absurd (stuck_path (sym e))
stuck_below cl p (x ∷ l) j e = go (led (cl p) x) refl (λ c k. stuck_below cl c l k) e
  where
    later : (c : ℕ) (d : Decoded) → led (cl p) x ≡ some c → Starts c l d → ((k : ℕ) → d ≡ stuck (suc k) → BelowEmpty cl c l k) →
        (k : ℕ) → behind p d ≡ stuck (suc k) → BelowEmpty cl p (x ∷ l) k
    later c (path ns) d s ih k e = absurd (stuck_path (sym e))
    later c (stuck i) d s ih zero e = let f : suc i ≡ 1 = cc in absurd (omega (arith, (s.stops i refl).0))
    later c (stuck i) d s ih (suc k) e = let f : i ≡ suc k = cc in below_later cl p c x l k d (ih k (ap stuck f))

    go : (o : Option ℕ) → led (cl p) x ≡ o → ((c k : ℕ) → decode cl c l ≡ stuck (suc k) → BelowEmpty cl c l k) →
        elim? o (stuck 1) (λ c. behind p (decode cl c l)) ≡ stuck (suc j) → BelowEmpty cl p (x ∷ l) j
    go none d ih e =
        let z : 0 ≡ j = cc in
        subst (BelowEmpty cl p (x ∷ l)) z (record { inside = omega arith; names = p ∷ []; reached = refl; empty = (led_none (cl p) x).0 d })
    go (some c) d ih e = later c (decode cl c l) d (starts cl c l) (ih c) j e

-- a component below a name with an empty clue is where its label is stuck
below_stuck : (cl : Clues) (p : ℕ) (l : Label) (j : ℕ) → BelowEmpty cl p l j → decode cl p l ≡ stuck (suc j)
unfolding further elim?
below_stuck cl p l j b =
    let (rest, e, n) = (starts cl p (take j l)).begins b.names b.reached in
    let x = get_or l j 0 in
    let long : length b.names ≡ suc j = omega (arith, ap length e, length-take-le j l (omega (arith, b.inside))) in
    let whole : (take j l ++ (x ∷ [])) ++ drop (suc j) l ≡ l =
    append_assoc (take j l) (x ∷ []) (drop (suc j) l) ∙ ap (λ m. take j l ++ m) (sym (drop-cons l j 0 b.inside)) ∙ take-append-drop j l in
    let here : decode cl p (take j l ++ (x ∷ [])) ≡ stuck (suc j) =
    decode_snoc cl p (take j l) x ∙ rw (b.reached, (led_none (cl (last b.names)) x).1 b.empty, long) refl in
    sym (ap (decode cl p) whole) ∙ stuck_more cl p (take j l ++ (x ∷ [])) (drop (suc j) l) (suc j) here

-- a label is stuck at a component, counted from 1, exactly if that is the first below a name with an empty clue
pub stuck_iff : (cl : Clues) (p : ℕ) (l : Label) (j : ℕ) → decode cl p l ≡ stuck (suc j) ↔ BelowEmpty cl p l j
stuck_iff cl p l j = (stuck_below cl p l j, below_stuck cl p l j)
