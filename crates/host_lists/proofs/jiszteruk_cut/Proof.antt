-- `host_lists::jiszteruk_cut` meets its contract: the verdict and the count are told.
use borrow.Author.Rules.{rules}
use Rattle.host_lists.proofs.Lists.{cut_told, cut_written}
use Rattle.host_lists.proofs.jiszteruk_cut.Statement.{statement}
use Rattle.host_lists.proofs.jiszteruk_cut.Tie as tie

pub jiszteruk_cut_spec : {M : Type 1} → statement M
jiszteruk_cut_spec =
    tie.close
    (tie.spec
    (λ c κs. search rules)
    (λ c κs. search rules)
    (λ c κs. search rules)
    (λ c. search rules)
    (λ c. search rules)
    (λ c. search (cut_told, cut_written, rules)))
