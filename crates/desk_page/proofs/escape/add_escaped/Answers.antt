use Rattle.std.proofs.Common.{◌∙◌, ◌++◌, ap, sym}
use Rattle.std.specs.List.{flat_map}
use Rattle.std.specs.String.{string_bytes}
use Rattle.std.proofs.lemmas.Iterator.{YieldsList-from_chars}
use Rattle.std.proofs.lemmas.Iterator.Consumers.{YieldsList-end}
use Rattle.std.proofs.lemmas.List.{flat_map_more, map-id}
use Rattle.desk_page.specs.Escapes.{escaped, shown_char}
use Rattle.desk_page.proofs.escape.add_escaped.Goals as goal

pub returns : goal.returns
unfolding escaped
returns c =
    let t = YieldsList-end (YieldsList-from_chars c.args.value.now c.utf8.value cc)
    c.loop-ch.yielded _ c.loop-ch.yielded_by _ _ c.in-None.is c.next.ensures.steps in
    c.loop-ch.invariant ∙ ap (λ cs. string_bytes c.args.text.now ++ flat_map shown_char cs)
    (sym (map-id c.loop-ch.yielded) ∙ t.0)

pub loop-ch-preserved : goal.loop-ch-preserved
loop-ch-preserved c =
    c.in_ok-add_char.ensures ∙ ap (λ bytes. bytes ++ shown_char c.in-Some.ch) c.loop-ch.invariant
    ∙ flat_map_more shown_char (string_bytes c.args.text.now) c.loop-ch.yielded c.in-Some.ch
