use Rattle.std.proofs.Common.{[], ap, rules, take_all, ◌∙◌}
use Rattle.std.specs.List.{flat_map}
use Rattle.std.specs.String.{string_bytes}
use Rattle.desk_wanting.specs.Requests.{choice_line}
use Rattle.desk_base.proofs.Lists.{joined_more}
use Rattle.desk_wanting.proofs.choice_requests.choice_lines.Goals as goal

pub loop-choice-preserved : goal.loop-choice-preserved
loop-choice-preserved c =
    joined_more (choice_line c.args.release.now) c.args.choices.now c.loop-choice.choice-index
    c.choice-item.result [] (string_bytes c.loop-choice.lines)
    (string_bytes c.push_str.new.self) (string_bytes c.in_ok-line.line) c.loop-choice-test.true
    c.choice-item.is c.loop-choice.invariant
    c.in_ok-line.ensures (search rules)

pub returns : goal.returns
returns c =
    c.loop-choice.invariant
    ∙ ap (flat_map (choice_line c.args.release.now))
    (take_all c.loop-choice.choice-index c.args.choices.now c.loop-choice-test.false)
