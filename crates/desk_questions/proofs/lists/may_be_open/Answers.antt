use Rattle.std.proofs.Common.{◌∙◌, sym, ap, filter}
use Rattle.desk_model.specs.Keys.{is_duty_of}
use Rattle.desk_model.specs.Queries.{totals_of}
use Rattle.desk_model.specs.declared.command.Totals.{Totals}
use Rattle.desk_history.specs.FromTables.{release_found}
use Rattle.desk_questions.proofs.Lines.{no_more, none_open, told_totals}
use Rattle.desk_questions.proofs.lists.may_be_open.Goals as goal

pub returns-in-Some-clause-found : goal.returns-in-Some-clause-found
returns-in-Some-clause-found g c = λ h t held no.
    let r = c.args.release.now in
    let same = told_totals (release_found t r) c.in-Some.totals
    (totals_of (filter (is_duty_of r) t.duty))
    (sym c.in-Some.is ∙ c.in_ok-totals.ensures.found h t held) in
    none_open r t.duty (sym (ap (λ (totals : Totals). totals.still_open) same)
    ∙ no_more c.in-Some.totals.still_open no)
