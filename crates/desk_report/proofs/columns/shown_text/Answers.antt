use Rattle.std.proofs.Common.{◌∙◌, [], ap, ap₂, sym, ◌++◌}
use Rattle.std.specs.List.{flat_map}
use Rattle.std.proofs.lemmas.Iterator.{YieldsList-from_chars}
use Rattle.std.proofs.lemmas.Iterator.Consumers.{YieldsList-end}
use Rattle.std.proofs.lemmas.List.{flat_map_more, map-id}
use Rattle.desk_base.specs.Terminal.{shown, shown_char}
use Rattle.desk_report.proofs.columns.shown_text.Goals as goal

pub returns : goal.returns
unfolding shown
returns c =
    let all = YieldsList-end (YieldsList-from_chars c.args.text.now c.utf8.text cc)
    c.loop-ch.yielded _ c.loop-ch.yielded_by _ _ c.in-None.is c.next.ensures.steps in
    c.loop-ch.invariant ∙ ap (flat_map shown_char) (sym (map-id c.loop-ch.yielded) ∙ all.0)

pub loop-ch-preserved : goal.loop-ch-preserved
loop-ch-preserved c =
    c.in_ok-push.ensures.bytes ∙ ap₂ ◌++◌ c.loop-ch.invariant c.shown_char.ensures
    ∙ flat_map_more shown_char [] c.loop-ch.yielded c.in-Some.ch
