use Rattle.std.proofs.Common.{◌∙◌, sym, subst}
use Rattle.desk_catalogue.specs.Reading.{rule_written, rule_of, rule_at}
use Rattle.desk_catalogue.specs.Shown.{Gives, rule_texts_in, codes_in}
use Rattle.toml.specs.View.{view}
use Rattle.desk_catalogue.proofs.ReadingLemmas.{if_ok_along, rule_found}
use Rattle.desk_catalogue.proofs.rules.rule_at.Goals as goal

pub returns-in-Some : goal.returns-in-Some
returns-in-Some c = λ terms h.
    let forms = c.args.known.now.forms in
    let duties = codes_in c.args.known.now.duties in
    let texts = rule_texts_in c.in-Ok.written in
    let written = subst (Gives (rule_written c.args.index (view c.args.value.now)) rule_texts_in)
    c.in-Ok.is c.in_ok-written.ensures in
    if_ok_along c.rule_of.result (rule_of forms duties c.args.index texts c.in-Some.term)
    (rule_at terms forms duties c.args.index (view c.args.value.now))
    (rule_found terms forms duties c.args.index (view c.args.value.now) texts c.in-Some.term written
    (sym c.in-Some.is ∙ c.in_ok-term.ensures terms h))
    c.rule_of.ensures
