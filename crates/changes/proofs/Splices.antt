-- The words of a store whose elements are cut: elements put in or taken out are records put in or taken out.
use Prim.Native.Nat.{ℕ, ◌*◌, ◌≤◌}
use mathlib.Core.Path.{◌≡◌, refl, sym, ap, ap₂, subst, ◌∙◌}
use mathlib.Core.List.Memᴰ
use mathlib.Core.List.{List, [], ◌∷◌, ◌++◌, append_assoc}
use native.Mathlib.Omega.{arith}
use lib.ListN.{length, take, drop, take-append-drop}
use lib.Seq.{take_at, drop_at, length-take-le}
use Rattle.basics.specs.Basics.{◌∈◌, joined}
use Rattle.basics.specs.Limits.{record_size}
use Rattle.storage.specs.Store.{Element, element_words, store_words}
use Rattle.storage.proofs.Words.{Fit, length-store_words}

-- the words of elements and of others behind them
words_append : (es fs : List Element) → store_words (es ++ fs) ≡ store_words es ++ store_words fs
unfolding store_words joined
words_append [] fs = refl
words_append (e ∷ es) fs = ap (λ t. element_words e ++ t) (words_append es fs) ∙ sym (append_assoc (element_words e) (store_words es) (store_words fs))

module _ (es : List Element) (fit : Fit es) where
  module _ (b : ℕ) (inside : b ≤ length es) where
    -- the first b elements have b records
    front_size : length (store_words (take b es)) ≡ record_size * b
    front_size =
        length-store_words (take b es) (λ e m. fit e (subst (λ l. e ∈ l) (take-append-drop b es) (Memᴰ.append_left (drop b es) m))) ∙
        ap (λ n. record_size * n) (length-take-le b es inside)

    -- the words of the elements are those of the first b and those of the others
    two_parts_lem : store_words es ≡ store_words (take b es) ++ store_words (drop b es)
    two_parts_lem = ap store_words (sym (take-append-drop b es)) ∙ words_append (take b es) (drop b es)

    -- the first b elements are the first b records
    words_take : store_words (take b es) ≡ take (record_size * b) (store_words es)
    words_take = sym (ap (take (record_size * b)) two_parts_lem ∙ take_at (store_words (take b es)) (store_words (drop b es)) (record_size * b) front_size)

    -- the elements behind the first b are the records behind the first b
    words_drop : store_words (drop b es) ≡ drop (record_size * b) (store_words es)
    words_drop = sym (ap (drop (record_size * b)) two_parts_lem ∙ drop_at (store_words (take b es)) (store_words (drop b es)) (record_size * b) front_size)

    -- where an element is put in at a place, its record is put in there
    pub words_splice : (new : Element) → store_words (take b es ++ (new ∷ drop b es)) ≡
        take (record_size * b) (store_words es) ++ (element_words new ++ drop (record_size * b) (store_words es))
    unfolding store_words joined
    words_splice new = words_append (take b es) (new ∷ drop b es) ∙ ap₂ (λ s t. s ++ (element_words new ++ t)) words_take words_drop

  -- where the elements from a place to another are taken out, their records are taken out
  pub words_gap : (a b : ℕ) → a ≤ b → b ≤ length es →
      store_words (take a es ++ drop b es) ≡ take (record_size * a) (store_words es) ++ drop (record_size * b) (store_words es)
  words_gap a b h k = words_append (take a es) (drop b es) ∙ ap₂ ◌++◌ (words_take a (omega arith)) (words_drop b k)
