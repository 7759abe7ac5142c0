use Rattle.std.proofs.Common.{◌∙◌, sym, ap, subst}
use Rattle.std.specs.Prelude.{Err, find}
use Rattle.std.specs.Option.{option_map}
use Rattle.std.proofs.lemmas.Result.{IfOk-weaker}
use Rattle.desk_catalogue.specs.Kept.{is_text_of}
use Rattle.desk_catalogue.specs.Reading.{catalogue_of}
use Rattle.desk_catalogue.specs.Shown.{IsRead}
use Rattle.desk_texts.specs.Catalogues.{kept_text, licence_text_in}
use Rattle.desk_texts.proofs.ByIds.{none_in}
use Rattle.desk_texts.proofs.licences.licences_of.Goals as goal

pub returns-in-Ok : goal.returns-in-Ok
returns-in-Ok c = λ terms h.
    let told = subst (IsRead (catalogue_of terms c.args.text.now)) c.in-Ok.is
    (c.read.ensures terms h) in
    IfOk-weaker c.by_id.result _ _
    (λ texts are id. are id ∙ (ap (λ texts. option_map kept_text (find (is_text_of id) texts))
    c.into_vec.ensures ∙ ap (λ read. licence_text_in read id) (sym told)))
    c.by_id.ensures

pub returns-in-Err-Refused : goal.returns-in-Err-Refused
returns-in-Err-Refused c = λ terms h id.
    let refused = subst (IsRead (catalogue_of terms c.args.text.now))
    (c.in-Err-Refused.is ∙ ap Err c.in-Err-Refused.field-0-is) (c.read.ensures terms h) in
    none_in c.new.result c.new.ensures.empty id ∙ ap (λ read. licence_text_in read id) (sym refused)
