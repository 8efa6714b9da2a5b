-- Numbers written into a list: one list of them after another, from the start, and what stands where afterwards.
use mathlib.Core.Path.{◌≡◌, refl, sym, ap, ◌∙◌}
use mathlib.Core.List.{List, [], ◌∷◌, ◌++◌, append_assoc}
use Prim.Native.Nat.{ℕ, ◌+◌, ◌≤◌, ◌<◌}
use native.Mathlib.Omega.{arith}
use native.Mathlib.Numerals.{add-one}
use borrow.Rule.Slice.PartMut.{put_mid}
use lib.ListN.{length, get_or, take, drop, set, length-append, length-drop, take-append-drop, get_or-append}
use lib.Seq.{set_split, take_at, drop_at, drop-drop, take-take, take-append-le, take-length, length-take-le, get_or-take, get_or-drop, paste}
use Rattle.std.proofs.lemmas.Slice.{put_mid-paste}
use Rattle.basics.specs.Basics.{over}
use Rattle.words.specs.Writing.{written}

-- numbers written at place 0 are written over the front of the list
pub written_over : (b text : List ℕ) → written 0 b text ≡ over b text
unfolding written over
written_over b text = ap (λ n. b ++ drop n text) (let z : 0 + length b ≡ length b = omega arith in z)

-- where no numbers are written, the list stays as it is
pub written_none : (at : ℕ) (text : List ℕ) → written at [] text ≡ text
unfolding written
written_none at text = ap (λ n. take at text ++ drop n text) (let z : at + 0 ≡ at = omega arith in z) ∙ take-append-drop at text

-- one number written is one place set
pub written_one : (at b : ℕ) (text : List ℕ) → at + 1 ≤ length text → set text at b ≡ written at (b ∷ []) text
unfolding written
written_one at b text h = rw add-one (set_split text at b (omega arith))

-- writing keeps the length of a list that has room
pub length_written : (at : ℕ) (b text : List ℕ) → at + length b ≤ length text → length (written at b text) ≡ length text
unfolding written
length_written at b text h =
    omega (
      arith,
      length-append (take at text) (b ++ drop (at + length b) text),
      length-append b (drop (at + length b) text),
      length-take-le at text (omega arith),
      length-drop (at + length b) text,
    )

module _ (at : ℕ) (a b text : List ℕ) (room : at + length a + length b ≤ length text) where
  -- a list into which two parts were written as one
  parts : written at (a ++ b) text ≡ take at text ++ (a ++ (b ++ drop (at + length a + length b) text))
  unfolding written
  parts =
      let z : at + length (a ++ b) ≡ at + length a + length b = omega (arith, length-append a b) in
      rw (z, append_assoc)

  -- two parts written one after the other are written as one
  pub written_after : written (at + length a) b (written at a text) ≡ written at (a ++ b) text
  unfolding written
  written_after =
      let rest : List ℕ = drop (at + length a) text in
      let long : length (take at text ++ a) ≡ at + length a = omega (arith, length-append (take at text) a, length-take-le at text (omega arith)) in
      ap (λ t. take (at + length a) t ++ (b ++ drop (at + length a + length b) t)) (sym (append_assoc (take at text) a rest)) ∙
      rw (
        take_at (take at text ++ a) rest (at + length a) long,
        ← drop-drop (length b) (at + length a) (take at text ++ a ++ rest),
        drop_at (take at text ++ a) rest (at + length a) long,
        drop-drop,
        append_assoc (take at text) a (b ++ drop (at + length a + length b) text),
      ) (sym parts)

  -- two parts are written as one also where the second is written first
  pub written_before : written at a (written (at + length a) b text) ≡ written at (a ++ b) text
  unfolding written
  written_before =
      let rest : List ℕ = b ++ drop (at + length a + length b) text in
      let front : List ℕ = take (at + length a) text in
      let long : length front ≡ at + length a = length-take-le (at + length a) text (omega arith) in
      rw (take-append-le at front rest (omega arith), take-take at (at + length a) text (omega arith), drop_at front rest (at + length a) long) (sym parts)

-- a loop that has copied all words has written them
pub written_paste : (at : ℕ) (ws out : List ℕ) (n : ℕ) → n ≡ length ws → paste out at ws n ≡ written at ws out
unfolding written
written_paste at ws out n e = rw (e, take-length ws) (append_assoc (take at out) ws (drop (at + length ws) out))

-- as many numbers as a part of a list has, written over that part, are written at its place
pub written_part : (at k : ℕ) (ws out : List ℕ) {now : List ℕ} → now ≡ ws → k ≡ length ws → put_mid at k out now ≡ written at ws out
written_part at k ws out {now} e f = put_mid-paste at k out now ws k e refl f ∙ written_paste at ws out k f

module _ (at : ℕ) (ws out : List ℕ) (fits : at + length ws ≤ length out) where
  -- as many words stand before the place as its number says
  front : length (take at out) ≡ at
  front = length-take-le at out (omega arith)

  -- writing leaves the words before its place as they were
  pub take_written : take at (written at ws out) ≡ take at out
  unfolding written
  take_written = take_at (take at out) (ws ++ drop (at + length ws) out) at front

  -- the words that were written stand at their place
  pub drop_written : drop at (written at ws out) ≡ ws ++ drop (at + length ws) out
  unfolding written
  drop_written = drop_at (take at out) (ws ++ drop (at + length ws) out) at front

  -- up to the end of what was written stand the words before the place, and then those written
  pub take_written_end : take (at + length ws) (written at ws out) ≡ take at out ++ ws
  unfolding written
  take_written_end =
      rw (← append_assoc (take at out) ws (drop (at + length ws) out))
      (take_at (take at out ++ ws) (drop (at + length ws) out) (at + length ws) (omega (arith, length-append (take at out) ws, front)))

  -- writing leaves the words behind its own as they were
  pub drop_written_end : drop (at + length ws) (written at ws out) ≡ drop (at + length ws) out
  unfolding written
  drop_written_end =
      rw (← append_assoc (take at out) ws (drop (at + length ws) out))
      (drop_at (take at out ++ ws) (drop (at + length ws) out) (at + length ws) (omega (arith, length-append (take at out) ws, front)))

  -- a word before the place of writing is as it was
  pub number_before : (j : ℕ) → j < at → get_or (written at ws out) j 0 ≡ get_or out j 0
  number_before j h = sym (get_or-take at (written at ws out) j 0 h) ∙ ap (λ l. get_or l j 0) take_written ∙ get_or-take at out j 0 h

  -- a word behind the place of writing is one of those written
  pub number_at : (j : ℕ) → j < length ws → get_or (written at ws out) (at + j) 0 ≡ get_or ws j 0
  number_at j h = sym (get_or-drop at (written at ws out) j 0) ∙ ap (λ l. get_or l j 0) drop_written ∙ get_or-append ws (drop (at + length ws) out) 0 j h

  -- a word behind those written is as it was
  pub number_behind : (j : ℕ) → get_or (written at ws out) (at + length ws + j) 0 ≡ get_or out (at + length ws + j) 0
  number_behind j =
      sym (get_or-drop (at + length ws) (written at ws out) j 0) ∙ ap (λ l. get_or l j 0) drop_written_end ∙ get_or-drop (at + length ws) out j 0
