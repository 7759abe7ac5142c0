use Rattle.std.proofs.Common.{◌∙◌, Ok}
use Rattle.toml.specs.View.{table_view}
use Rattle.desk_catalogue.proofs.ReadingLemmas.{catalogue_found, rules_fail, texts_fail}
use Rattle.desk_catalogue.proofs.reading.catalogue_of_table.Goals as goal

pub returns-in-Err-3 : goal.returns-in-Err-3
returns-in-Err-3 c = λ terms h.
    rules_fail terms (table_view c.args.table.now) c.in-Ok.forms c.in-Ok-2.duties c.in-Ok.is
    c.in_ok-forms.ensures c.in-Ok-2.is c.in_ok-duties.ensures c.in-Err-3.fault c.in-Err-3.is
    (c.in_ok-rules.ensures terms h)

pub returns-in-Err-4 : goal.returns-in-Err-4
returns-in-Err-4 c = λ terms h.
    texts_fail terms (table_view c.args.table.now) c.in-Ok.forms c.in-Ok-2.duties c.in-Ok.is
    c.in_ok-forms.ensures c.in-Ok-2.is c.in_ok-duties.ensures c.in-Ok-3.rules c.in-Ok-3.is
    (c.in_ok-rules.ensures terms h) c.in-Err-4.fault c.in-Err-4.is c.in_ok-texts.ensures

pub returns : goal.returns
returns c = λ terms h.
    (λ i. Ok (record {
      forms = c.into_forms-forms.ensures i;
      rules = c.in_ok-rules-2.ensures i;
      texts = c.in-Ok-4.texts;
    }))
    ∙ catalogue_found terms (table_view c.args.table.now) c.in-Ok.forms c.in-Ok-2.duties c.in-Ok.is
    c.in_ok-forms.ensures c.in-Ok-2.is c.in_ok-duties.ensures c.in-Ok-3.rules c.in-Ok-3.is
    (c.in_ok-rules.ensures terms h) c.in-Ok-4.texts c.in-Ok-4.is c.in_ok-texts.ensures
