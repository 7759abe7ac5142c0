use Rattle.std.proofs.Common.{◌∙◌, sym, true, false, Some, []}
use Rattle.toml.specs.View.{items_view}
use Rattle.desk_catalogue.specs.Reading.{each, with_form, forms_listed}
use Rattle.desk_catalogue.proofs.ReadingLemmas.{forms_counted, gives_along}
use Rattle.desk_catalogue.proofs.forms.forms_listed.Goals as goal
use Rattle.desk_base.specs.Borrowed.{texts_in}

pub returns-then-is_form_count : goal.returns-then-is_form_count
returns-then-is_form_count c =
    gives_along c.each_form.result (each with_form [] 0 (items_view c.args.values.now))
    (forms_listed (Some (items_view c.args.values.now))) texts_in
    (forms_counted c.args.values.now true (sym c.is_form_count.ensures ∙ c.if-is_form_count.true))
    c.each_form.ensures

pub returns-else-is_form_count : goal.returns-else-is_form_count
returns-else-is_form_count c = sym (forms_counted c.args.values.now false
    (sym c.is_form_count.ensures ∙ c.if-is_form_count.false))
