-- The components behind those written are to come, a dot before each.
use Rattle.std.proofs.Common.{drop}
use Rattle.labelling.specs.Labels.{label_of}
use Rattle.printouts.specs.Printing.{label_text}
use Rattle.texts.proofs.Texts.{ToCome}
use Rattle.texts.proofs.LabelTexts.{dotted}
use Rattle.texts.proofs.put_label.Given as goal

abbrev pub invariant-loop-component : goal.invariant-loop-component
invariant-loop-component l = ToCome l.at (label_text (label_of l.words)) l.fn.text l.end (dotted (drop l.component-index l.others)) l.text
