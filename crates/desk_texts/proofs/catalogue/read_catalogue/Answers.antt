use Rattle.std.proofs.Common.{◌∙◌, sym, ap, subst}
use Rattle.std.specs.Prelude.{Err}
use Rattle.desk_catalogue.specs.Reading.{catalogue_of}
use Rattle.desk_catalogue.specs.Shown.{IsRead}
use Rattle.desk_texts.specs.Catalogues.{kept_catalogue}
use Rattle.desk_texts.proofs.catalogue.read_catalogue.Goals as goal

pub returns-in-Err-Refused : goal.returns-in-Err-Refused
returns-in-Err-Refused c = λ terms h.
    let told = subst (IsRead (catalogue_of terms c.args.text.now))
    (c.in-Err-Refused.is ∙ ap Err c.in-Err-Refused.field-0-is) (c.read.ensures terms h) in
    sym (ap kept_catalogue told)
