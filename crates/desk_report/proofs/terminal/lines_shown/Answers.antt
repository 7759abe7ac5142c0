use Rattle.std.proofs.Common.{◌∙◌, ◌++◌, [], ap, sym}
use Rattle.std.specs.List.{flat_map}
use Rattle.std.proofs.lemmas.Iterator.{YieldsList-from_chars}
use Rattle.std.proofs.lemmas.Iterator.Consumers.{YieldsList-end}
use Rattle.std.proofs.lemmas.List.{flat_map_more, map-id}
use Rattle.desk_report.specs.Terminal.{line_char, lines_shown}
use Rattle.desk_report.proofs.terminal.lines_shown.Goals as goal

pub returns : goal.returns
unfolding lines_shown
returns c =
    let all = YieldsList-end (YieldsList-from_chars c.args.text.now c.utf8.text cc)
    c.loop-ch.yielded _ c.loop-ch.yielded_by _ _ c.in-None.is c.next.ensures.steps in
    c.loop-ch.invariant ∙ ap (flat_map line_char) (sym (map-id c.loop-ch.yielded) ∙ all.0)

pub loop-ch-preserved : goal.loop-ch-preserved
loop-ch-preserved c =
    c.in_ok-add_line_char.ensures ∙ ap (λ bytes. bytes ++ line_char c.in-Some.ch) c.loop-ch.invariant
    ∙ flat_map_more line_char [] c.loop-ch.yielded c.in-Some.ch
