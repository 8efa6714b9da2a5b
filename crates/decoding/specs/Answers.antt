-- What decoding answers, by the definitions of `labelling`.
use Rattle.std.specs.Prelude.{replicate}
use Rattle.basics.specs.Limits.{label_size}
use Rattle.labelling.specs.Labels as spec
use Rattle.refusals.specs.Answers.{verdict_of}
use Rattle.refusals.specs.declared.Verdict.{Verdict}
use Rattle.decoding.specs.declared.Decoding.{Decoding}

-- what decoding answers, by its definition
abbrev pub decoding_of : spec.Decoding → Decoding
decoding_of d = record { verdict = verdict_of d.refusal; names = d.names }

-- the answer of a refused call, which has no names
abbrev pub decoding_refused : Verdict → Decoding
decoding_refused v = record { verdict = v; names = replicate label_size 0 }

-- what a label that was read decodes to: the names, or refusal 16
abbrev pub decoded_by : spec.Decoded → Decoding
decoded_by d = record { verdict = verdict_of (spec.path_check d); names = spec.names_in d }
