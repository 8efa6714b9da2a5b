-- Members of lists, and ascending lists.
use mathlib.Core.Path.{◌≡◌, refl, sym, ap, subst, ◌∙◌}
use mathlib.Core.Logic.Iff
use mathlib.Core.Logic.{◌↔◌, ◌⊎◌, inl, inr, ⊎_elim, ⊎_map}
use mathlib.Core.Bool.{Bool, true, false, cond, ◌&&◌, and-true, and_assoc}
use mathlib.Core.List.Memᴰ
use mathlib.Core.List.{List, [], ◌∷◌, ◌++◌, map, reverse_aux, append_assoc}
use Prim.Native.Nat.{ℕ, zero, suc, ◌*◌, ◌<◌, ◌≤◌, ◌-◌}
use native.Mathlib.Nat.{not-suc-le-zero, le_of_suc-le-suc, mul-zero, mul-suc}
use native.Mathlib.Omega.{arith}
use lib.ListN.{length, get_or, length-append}
use lib.Seq.{get_or_at}
use lib.Dec.{T, eqb}
use Rattle.basics.specs.Basics.{◌∈◌, all, keep, joined, Ascending, none_left, one_more_lem, stands, last}
use Rattle.basics.proofs.Tests.{and_iff, is_true, or_iff, eqb_alike}
use Rattle.basics.proofs.Orders.{OneWay}
pub use mathlib.Core.List.Memᴰ.{append_cases as either_part}
pub use mathlib.Core.List.Memᴰ.{cases_cons as here_or_there}
pub use mathlib.Core.List.Memᴰ.{eq_of_singleton as only_one}
pub use mathlib.Core.List.Memᴰ.{head as here}
pub use mathlib.Core.List.Memᴰ.{not-nil as nowhere}
pub use mathlib.Core.List.Memᴰ.{tail as there}

-- what holds of the first and of the rest holds of every member
pub for_cons : {A : Type 0} (P : A → Type 0) {z : A} {s : List A} → P z → ((y : A) → y ∈ s → P y) → (y : A) → y ∈ z ∷ s → P y
for_cons P p q y m = ⊎_elim (λ e. subst P (sym e) p) (q y) (here_or_there m)

-- lists made of the members of two lists are those of the first, then those of the second
pub joined_append : {A B : Type 0} (f : A → List B) (l m : List A) → joined (map f (l ++ m)) ≡ joined (map f l) ++ joined (map f m)
unfolding joined
joined_append f [] m = refl
joined_append f (a ∷ l) m = ap (λ x. f a ++ x) (joined_append f l m) ∙ sym (append_assoc (f a) (joined (map f l)) (joined (map f m)))

-- the members of a list put in front of another, the last one first, are those of both
pub reverse_mem : {A : Type 0} (l m : List A) (a : A) → a ∈ reverse_aux l m ↔ (a ∈ l ⊎ a ∈ m)
reverse_mem [] m a = (inr, ⊎_elim (λ h. absurd (nowhere h)) (λ h. h))
reverse_mem (x ∷ l) m a = Iff.trans (reverse_mem l (x ∷ m) a) (
  ⊎_elim (λ h. inl (there h)) (λ h. ⊎_elim (λ e. inl (here e)) inr (here_or_there h)),
  ⊎_elim (λ h. ⊎_elim (λ e. inr (here e)) inl (here_or_there h)) (λ h. inr (there h)),
)

-- what holds of every image holds of every member of the mapped list
pub for_map : {A B : Type 0} (f : A → B) (P : B → Type 0) (s : List A) → ((y : A) → y ∈ s → P (f y)) → (z : B) → z ∈ map f s → P z
for_map f P s q z m = let (y, h, e) = Memᴰ.of_map f s m in subst P e (q y h)

-- lists with the same members have the same images
pub map_iff : {A B : Type 0} (f : A → B) {s t : List A} → ((y : A) → y ∈ s ↔ y ∈ t) → (z : B) → z ∈ map f s ↔ z ∈ map f t
map_iff f {s} {t} h z = (
  for_map f (λ z. z ∈ map f t) s (λ y m. Memᴰ.map f ((h y).0 m)) z,
  for_map f (λ z. z ∈ map f s) t (λ y m. Memᴰ.map f ((h y).1 m)) z,
)

module _ {A : Type 0} (f : A → Bool) where
  -- all members of a list pass a test exactly if the member at each place does
  pub all_at : (d : A) (l : List A) → T (all f l) ↔ ((i : ℕ) → i < length l → T (f (get_or l i d)))
  unfolding all
  all_at d [] = (λ h i p. absurd (not-suc-le-zero p), λ h. tt)
  all_at d (a ∷ l) = (
    λ h. at ((and_iff (f a) (all f l)).0 h).0 ((all_at d l).0 ((and_iff (f a) (all f l)).0 h).1),
    λ h. (and_iff (f a) (all f l)).1 (h 0 (omega arith), (all_at d l).1 (λ i p. h (suc i) (omega arith))),
  )
    where
      at : T (f a) → ((i : ℕ) → i < length l → T (f (get_or l i d))) → (i : ℕ) → i < suc (length l) → T (f (get_or (a ∷ l) i d))
      at h k zero p = h
      at h k (suc i) p = k i (le_of_suc-le-suc p)

  -- all of a list with one more member at its end pass exactly if the list's do and that member does
  pub all_snoc : (l : List A) (a : A) → all f (l ++ (a ∷ [])) ≡ (all f l && f a)
  unfolding all
  all_snoc [] a = and-true (f a)
  all_snoc (x ∷ l) a = rw (all_snoc l a, and_assoc)

  -- what a test keeps of a list with one member more
  keep_cons : (x : A) (l : List A) (a : A) → a ∈ keep f (x ∷ l) ↔ (((a ≡ x) × T (f x)) ⊎ a ∈ keep f l)
  unfolding keep
  keep_cons x l a = go (f x)
    where
      go : (b : Bool) → a ∈ cond b (x ∷ keep f l) (keep f l) ↔ (((a ≡ x) × T b) ⊎ a ∈ keep f l)
      go true = (λ h. ⊎_map (λ e. (e, tt)) (λ k. k) (here_or_there h), ⊎_elim (λ p. here p.0) there)
      go false = (inr, ⊎_elim (λ p. absurd p.1) (λ k. k))

  -- the members that a test keeps are those of the list that pass it
  pub keep_iff : (l : List A) (a : A) → a ∈ keep f l ↔ (a ∈ l × T (f a))
  unfolding keep
  keep_iff [] a = (λ h. absurd (nowhere h), λ h. absurd (nowhere h.0))
  keep_iff (x ∷ l) a = (
    λ h. ⊎_elim (λ p. (here p.0, rw p.0 p.1)) (λ k. let p = (keep_iff l a).0 k in (there p.0, p.1)) ((keep_cons x l a).0 h),
    λ h. (keep_cons x l a).1 (⊎_map (λ e. (e, rw e at h.1)) (λ k. (keep_iff l a).1 (k, h.1)) (here_or_there h.0)),
  )

-- the members of a list are what stands at its places
pub member_at : {A : Type 0} (d : A) (l : List A) (a : A) → a ∈ l ↔ ((i : ℕ) × (i < length l) × (get_or l i d ≡ a))
member_at d [] a = (λ h. absurd (nowhere h), λ h. absurd (not-suc-le-zero h.1))
member_at d (x ∷ l) a = (
  λ h. ⊎_elim (λ e. (0, omega arith, sym e)) (λ k. let (i, p, e) = (member_at d l a).0 k in (suc i, omega arith, e)) (here_or_there h),
  λ h. go (λ i p e. (member_at d l a).1 (i, p, e)) h.0 h.1 h.2,
)
  where
    go : ((i : ℕ) → i < length l → get_or l i d ≡ a → a ∈ l) → (i : ℕ) → i < suc (length l) → get_or (x ∷ l) i d ≡ a → a ∈ x ∷ l
    go below zero p e = here (sym e)
    go below (suc i) p e = there (below i (le_of_suc-le-suc p) e)

-- a test that every member passes keeps the whole list
pub keep_all : {A : Type 0} (f : A → Bool) (l : List A) → ((a : A) → a ∈ l → T (f a)) → keep f l ≡ l
unfolding keep
keep_all f [] h = refl
keep_all f (x ∷ l) h = rw (is_true (f x) (h x (here refl)), keep_all f l (λ a m. h a (there m)))

-- a test keeps no more members than the list has
pub length_keep : {A : Type 0} (f : A → Bool) (l : List A) → length (keep f l) ≤ length l
unfolding keep
length_keep f [] = omega arith
length_keep f (a ∷ l) = go (f a) (length_keep f l)
  where
    go : (c : Bool) → length (keep f l) ≤ length l → length (cond c (a ∷ keep f l) (keep f l)) ≤ suc (length l)
    go true h = omega arith
    go false h = omega arith

module _ {A : Type 0} {less : A → A → Bool} where
  -- what a test keeps of an ascending list is ascending
  pub keep_ascending : (f : A → Bool) {l : List A} → Ascending less l → Ascending less (keep f l)
  unfolding keep
  keep_ascending f none_left = none_left
  keep_ascending f (one_more_lem {a} {more} h r) = go (keep_ascending f r) (f a)
    where
      go : Ascending less (keep f more) → (b : Bool) → Ascending less (cond b (a ∷ keep f more) (keep f more))
      go below true = one_more_lem (λ b k. h b ((keep_iff f more b).0 k).0) below
      go below false = below

  -- two ascending lists one after the other ascend,
  -- where every member of the first comes before every member of the second
  pub append_ascending : {l m : List A} → Ascending less l → Ascending less m → ((a b : A) → a ∈ l → b ∈ m → T (less a b)) → Ascending less (l ++ m)
  append_ascending none_left s h = s
  append_ascending (one_more_lem {a} {more} k r) s h =
      one_more_lem (λ b p. ⊎_elim (k b) (h a b (here refl)) (either_part more p)) (append_ascending r s (λ x b p. h x b (there p)))

  -- a map that keeps the order maps an ascending list to an ascending one
  pub map_ascending : {B : Type 0} {less' : B → B → Bool} (f : A → B) → ((a b : A) → T (less a b) → T (less' (f a) (f b))) →
      {l : List A} → Ascending less l → Ascending less' (map f l)
  map_ascending f up none_left = none_left
  map_ascending f up (one_more_lem {a} {more} h r) =
      one_more_lem {a = f a} (λ b k. let q = Memᴰ.of_map f more k in rw (← q.2) (up a q.0 (h q.0 q.1))) (map_ascending f up r)

  module _ (o : OneWay less) where
    -- the first members of two ascending lists with the same members are equal
    heads : {a b : A} {l m : List A} → ((x : A) → x ∈ l → T (less a x)) → ((x : A) → x ∈ m → T (less b x)) → a ∈ b ∷ m → b ∈ a ∷ l → a ≡ b
    heads {a} {b} {l} {m} h k p q = go (here_or_there p) (here_or_there q)
      where
        go : (a ≡ b) ⊎ a ∈ m → (b ≡ a) ⊎ b ∈ l → a ≡ b
        go (inl e) s = e
        go (inr r) (inl e) = sym e
        go (inr r) (inr s) = absurd (o.asym a b (h b s) (k a r))

    -- behind equal first members, two ascending lists with the same members go on with the same members
    tails : {a b : A} {l m : List A} → a ≡ b → ((x : A) → x ∈ l → T (less a x)) → ((x : A) → x ∈ a ∷ l → x ∈ b ∷ m) → (x : A) → x ∈ l → x ∈ m
    tails {a} e h f x p = ⊎_elim (λ d. let l = subst (λ y. T (less a y)) (d ∙ sym e) (h x p) in absurd (o.asym a a l l)) (λ k. k)
        (here_or_there (f x (there p)))

    -- two ascending lists with the same members are equal
    pub ascending_unique : {l m : List A} → Ascending less l → Ascending less m → ((a : A) → a ∈ l ↔ a ∈ m) → l ≡ m
    ascending_unique none_left none_left f = refl
    ascending_unique none_left (one_more_lem {a} h r) f = absurd (nowhere ((f a).1 (here refl)))
    ascending_unique (one_more_lem {a} h r) none_left f = absurd (nowhere ((f a).0 (here refl)))
    ascending_unique (one_more_lem {a} {more = l} h r) (one_more_lem {a = b} {more = m} k s) f =
        let e : a ≡ b = heads h k ((f a).0 (here refl)) ((f b).1 (here refl)) in
        let d : l ≡ m = ascending_unique r s (λ x. (tails e h (λ y. (f y).0) x, tails (sym e) k (λ y. (f y).1) x)) in
        cc

-- images that all have the length n, one after the other, have n times as many members as the list mapped
pub length_joined : {A B : Type 0} (f : A → List B) (n : ℕ) (l : List A) → ((a : A) → a ∈ l → length (f a) ≡ n) → length (joined (map f l)) ≡ n * length l
unfolding joined
length_joined f n [] h = sym (mul-zero n)
length_joined f n (a ∷ l) h =
    omega (arith, length-append (f a) (joined (map f l)), h a (here refl), length_joined f n l (λ b m. h b (there m)), mul-suc n (length l))

-- what a test keeps of two lists one after the other is what it keeps of each
pub keep_append : {A : Type 0} (f : A → Bool) (l m : List A) → keep f (l ++ m) ≡ keep f l ++ keep f m
unfolding keep
keep_append f [] m = refl
keep_append f (a ∷ l) m = rw (keep_append f l m) (go (f a))
  where
    go : (b : Bool) → cond b (a ∷ (keep f l ++ keep f m)) (keep f l ++ keep f m) ≡ cond b (a ∷ keep f l) (keep f l) ++ keep f m
    go true = refl
    go false = refl

-- tests that agree on a list keep the same members of it
pub keep_alike : {A : Type 0} (f g : A → Bool) (l : List A) → ((a : A) → a ∈ l → f a ≡ g a) → keep f l ≡ keep g l
unfolding keep
keep_alike f g [] h = refl
keep_alike f g (a ∷ l) h = rw (h a (here refl), keep_alike f g l (λ b m. h b (there m)))

-- keeping by one test and then by another is keeping by both
pub keep_keep : {A : Type 0} (f g : A → Bool) (l : List A) → keep g (keep f l) ≡ keep (λ a. f a && g a) l
unfolding keep
keep_keep f g [] = refl
keep_keep f g (a ∷ l) = go (f a) (keep_keep f g l)
  where
    go : (b : Bool) → keep g (keep f l) ≡ keep (λ a. f a && g a) l →
        keep g (cond b (a ∷ keep f l) (keep f l)) ≡ cond (b && g a) (a ∷ keep (λ a. f a && g a) l) (keep (λ a. f a && g a) l)
    go true e = rw e
    go false e = e

-- the test `stands` passes exactly for the members of a list
pub stands_iff : (n : ℕ) (l : List ℕ) → T (stands n l) ↔ n ∈ l
unfolding stands
stands_iff n [] = (absurd, nowhere)
stands_iff n (x ∷ xs) = (
  λ h. ⊎_elim (λ e. here (sym ((eqb_alike x n).0 e))) (λ k. there ((stands_iff n xs).0 k)) ((or_iff (eqb x n) _).0 h),
  λ h. (or_iff (eqb x n) _).1 (⊎_map (λ e. (eqb_alike x n).1 (sym e)) (stands_iff n xs).1 (here_or_there h)),
)

-- the last number of a list is what was added at its end
pub last_snoc : (l : List ℕ) (k : ℕ) → last (l ++ (k ∷ [])) ≡ k
unfolding last
last_snoc l k = get_or_at l k [] 0 (length (l ++ (k ∷ [])) - 1) (omega (arith, length-append l (k ∷ [])))
