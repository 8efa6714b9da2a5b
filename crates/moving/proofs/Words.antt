-- Words replaced in a list: what a copying loop has written so far, and two parts replaced in turn.
use Prim.Native.Nat.{ℕ, ◌+◌, ◌-◌, ◌<◌, ◌≤◌}
use mathlib.Core.Logic.{◌⊎◌, inl, inr}
use mathlib.Core.Path.{◌≡◌, sym, ap, subst, ◌∙◌}
use mathlib.Core.List.{List, ◌++◌, append_assoc}
use native.Mathlib.Omega.{arith}
use native.Mathlib.Numerals.{add-one}
use lib.ListN.{length, get_or, take, drop, set, length-append, get_or-append}
use lib.Seq.{paste, paste-suc, drop-paste, take-add, take_at, drop_at, drop-drop, take-take, take-append-le, length-take-le, get_or-take, get_or-drop}

module _ (d : List ℕ) (at : ℕ) (s : List ℕ) (n : ℕ) where
  -- one more word is written
  pub paste_more : {e : List ℕ} {x : ℕ} → e ≡ paste d at s n → at + n < length d → n < length s → x ≡ get_or s n 0 → set e (at + n) x ≡ paste d at s (n + 1)
  paste_more p h k q = rw (p, q, add-one) (paste-suc d at s n 0 h k)

  -- a word before or after what was written is as it was
  pub paste_beside : (k : ℕ) → at + n ≤ length d → n ≤ length s → (k < at) ⊎ (at + n ≤ k) → get_or (paste d at s n) k 0 ≡ get_or d k 0
  paste_beside k h l (inl below) =
      rw append_assoc
      (get_or-append (take at d) (take n s ++ drop (at + n) d) 0 k (rw (length-take-le at d (omega arith)) below)
      ∙ get_or-take at d k 0 below)
  paste_beside k h l (inr above) =
      let past : at + n + (k - (at + n)) ≡ k = omega arith in
      subst (λ m. get_or (paste d at s n) m 0 ≡ get_or d m 0) past
      (sym (get_or-drop (at + n) (paste d at s n) (k - (at + n)) 0)
      ∙ ap (λ l. get_or l (k - (at + n)) 0) (drop-paste d at s n (omega arith) l)
      ∙ get_or-drop (at + n) d (k - (at + n)) 0)

-- two parts side by side are one
pub two_parts_lem : (d : List ℕ) (k n m k' n' : ℕ) (q : List ℕ) → k' ≡ k + n → n' ≡ n + m →
    take n (drop k d) ++ (take m (drop k' d) ++ q) ≡ take n' (drop k d) ++ q
two_parts_lem d k n m k' n' q x y =
    rw (x, y, take-add n m (drop k d), drop-drop n k d) (sym (append_assoc (take n (drop k d)) (take m (drop (k + n) d)) q))

-- the words up to a place, from an earlier one on
cut : (k n : ℕ) (l : List ℕ) → k ≤ length l → drop k (take (k + n) l) ≡ take n (drop k l)
cut k n l h = rw (take-add k n l) (drop_at (take k l) (take n (drop k l)) k (length-take-le k l h))

-- the front of a list whose rest was replaced is as it was
front_kept : (d q : List ℕ) (n m : ℕ) → n ≤ m → m ≤ length d → take n (take m d ++ q) ≡ take n d
front_kept d q n m h k = take-append-le n (take m d) q (rw (length-take-le m d k) h) ∙ take-take n m d h

-- a part of the front of a list whose rest was replaced is as it was
pub part_kept : (d q : List ℕ) (k n m : ℕ) → k + n ≤ m → m ≤ length d → take n (drop k (take m d ++ q)) ≡ take n (drop k d)
part_kept d q k n m h l =
    let long : k ≤ length (take m d ++ q) = rw (length-append, length-take-le m d l) (omega arith) in
    sym (cut k n (take m d ++ q) long) ∙ ap (λ t. drop k t) (front_kept d q (k + n) m h l) ∙ cut k n d (omega arith)

-- the rest of a list whose front was replaced is as it was
pub rest_kept : (d p : List ℕ) (n m : ℕ) → length p ≡ n → n ≤ m → drop m (p ++ drop n d) ≡ drop m d
rest_kept d p n m e h =
    let past : n + (m - n) ≡ m = omega arith in
    subst (λ k. drop k (p ++ drop n d) ≡ drop k d) past
    (sym (drop-drop (m - n) n (p ++ drop n d)) ∙ ap (λ t. drop (m - n) t) (drop_at p (drop n d) n e) ∙ drop-drop (m - n) n d)

module _ (d : List ℕ) {f : List ℕ} (a b c : ℕ) (r s : List ℕ) where
  -- a part replaced, and then the part before it, are one part replaced
  pub then_before : a ≤ b → b ≤ length d → f ≡ take b d ++ (s ++ drop c d) → take a f ++ (r ++ drop b f) ≡ take a d ++ (r ++ (s ++ drop c d))
  then_before h k p = rw (p, front_kept d (s ++ drop c d) a b h k, drop_at (take b d) (s ++ drop c d) b (length-take-le b d k))

  -- a part replaced, and then the part after it, are one part replaced
  pub then_after : length (take a d ++ s) ≡ b → b ≤ c → f ≡ take a d ++ (s ++ drop b d) → take b f ++ (r ++ drop c f) ≡ take a d ++ (s ++ (r ++ drop c d))
  then_after e h p =
      let q = p ∙ sym (append_assoc (take a d) s (drop b d)) in
      rw (q, take_at (take a d ++ s) (drop b d) b e, rest_kept d (take a d ++ s) b c e h) (append_assoc (take a d) s (r ++ drop c d))
