-- The words are walked from the first on, and each is tested for a component.
use Rattle.std.proofs.Common.{rules, ◌∙◌}
use Rattle.std.proofs.lemmas.Iterator.{YieldsList-from_slice}
use Rattle.std.proofs.lemmas.Iterator.Search.{all_from_yields_List}
use Rattle.labelling.specs.Labels.{is_component}
use Rattle.bridges.proofs.Lists.{all_is}
use Rattle.labels.proofs.all_components.Goals as goal

pub returns : goal.returns
unfolding is_component
returns c = all_from_yields_List is_component _ _ _ c.all.ensures.ran (YieldsList-from_slice c.args.s.now cc) (λ x b q k. search rules) ∙ all_is is_component c.args.s.now
