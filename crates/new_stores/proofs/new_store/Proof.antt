-- `new_stores::new_store` meets its contract: 18 and 21 in turn, else record 0 put in.
use borrow.Author.Rules.{rules}
use Rattle.new_stores.proofs.NewStore.{new_odd, new_high, new_room, new_done}
use Rattle.new_stores.proofs.new_store.Statement.{statement}
use Rattle.new_stores.proofs.new_store.Tie as tie

pub new_store_spec : {M : Type 1} → statement M
new_store_spec =
    tie.close
    (tie.spec
    (λ c κs. search rules)
    (λ c κs. search rules)
    (λ c. search (new_odd, rules))
    (λ c κs. search rules)
    (λ c. search (new_high, rules))
    (λ c κs. search rules)
    (λ c κs. search rules)
    (λ c κs. search (new_room, rules))
    (λ c. search rules)
    (λ c. search (new_done, rules)))
