-- What kinship and follows answer, beside the definitions of `labelling`.
use Rattle.std.specs.Prelude.{ℕ, Bool, Result, Ok, Err}
use Rattle.basics.specs.Refusals.{Reply, value, refused}
use Rattle.refusals.specs.Answers.{refusal_of}
use Rattle.refusals.specs.declared.Refusal.{Refusal}
use Rattle.kinship.specs.declared.Relation.{Relation}
use Rattle.kinship.specs.declared.Relation.TheVariants as kin

-- the number of a relation
abbrev pub relation_number : Relation → ℕ
relation_number kin.Same = 0
relation_number kin.Parent = 1
relation_number kin.HigherAncestor = 2
relation_number kin.Child = 3
relation_number kin.DeeperDescendant = 4
relation_number kin.Unrelated = 5

-- what kinship answers, as its definition has it: the number, or the refusal
abbrev pub kinship_reply : Result Relation Refusal → Reply ℕ
kinship_reply (Ok k) = value (relation_number k)
kinship_reply (Err r) = refused (record { number = r.number; place = r.place })

-- what follows answers: whether the first label follows the second, or the refusal
abbrev pub follows_of : Reply Bool → Result Bool Refusal
follows_of (value b) = Ok b
follows_of (refused r) = Err (refusal_of r)
