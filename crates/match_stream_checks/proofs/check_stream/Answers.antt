-- Each turn reads one label more, behind the last one the stream has passed, and a label that is ruled out ends the check.
use borrow.Author.Rules.{rules, Fits-under}
use Rattle.match_stream_checks.proofs.Reading.{read_start, read_ready, read_out, read_few, read_on, read_passed, read_shares, read_names_lem}
use Rattle.match_stream_checks.proofs.check_stream.Goals as goal

pub loop-i-init : goal.loop-i-init
loop-i-init c = search (read_start, rules)

pub read_label-requires : goal.read_label-requires
read_label-requires c = search (read_ready, rules)

pub returns-in_default-clause-value : goal.returns-in_default-clause-value
returns-in_default-clause-value c = read_out c.loop-i.invariant (search rules) c.read_label.ensures.value (search rules) c.refuse.ensures

pub overflow_cast-shares : goal.overflow_cast-shares
overflow_cast-shares c = Fits-under _ _ 16 (read_few c.loop-i.invariant (search rules) c.read_label.ensures.value (search rules)) tt

pub loop-i-preserved : goal.loop-i-preserved
loop-i-preserved c =
    let label = c.read_label.ensures in
    read_on c.loop-i.invariant (search rules) label.value (search rules) (search rules) (search rules) label.names_len label.along c.write_names.ensures

pub returns-clause-value : goal.returns-clause-value
returns-clause-value c = read_passed c.loop-i.invariant (search rules) (search rules)

pub returns-clause-shares_after : goal.returns-clause-shares_after
returns-clause-shares_after c = λ e. (
  read_shares c.loop-i.invariant (search rules) (search rules) (search rules),
  read_names_lem c.loop-i.invariant (search rules) (search rules),
)
