-- What a refused call leaves: a part of demand 3.
use Rattle.std.specs.Prelude.{◌≡◌, List, ℕ, replicate}
use Rattle.naming.specs.Names.{Table}
use Rattle.basics.specs.Limits.{label_size}
use Rattle.book.specs.Book.{Book, Call, NewElement, entry, answer}

-- What holds of a refused call: it writes nothing, and answers the count it was given and, for an entry, sixteen zeros.
pub record RefusalHolds (rows : Table) (n : ℕ) (b after : Book) (slice : List ℕ) (c : Call) : Type 0 where
  pub book_stays : after ≡ b
  pub slice_stays : (answer rows slice n c).slice ≡ slice
  pub count_stays : (answer rows slice n c).count ≡ n
  pub zeros : (new : NewElement) → c ≡ entry new → (answer rows slice n c).label ≡ replicate label_size 0
