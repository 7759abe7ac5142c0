use Rattle.std.proofs.Common.{◌∙◌, ap, sym}
use Rattle.std.specs.Prelude.{◌&&◌, is_none}
use Rattle.desk_fields.specs.declared.tag.Tag.TheVariants as tags
use Rattle.desk_fields.specs.Tags.{same_tag}
use Rattle.desk_findings.specs.Fields.{uses_undefined}
use Rattle.desk_findings.proofs.document.licence_read.Goals as goal

pub returns-in_ok-uses_undefined_in-in-Some : goal.returns-in_ok-uses_undefined_in-in-Some
returns-in_ok-uses_undefined_in-in-Some c =
    let same = same_tag c.args.tag tags.PackageConcluded in
    record {
      bad = λ reads is. ap is_none (sym c.in-Some.is ∙ c.in_ok-expr.ensures reads is);
      undefined = λ reads is d known. c.in_ok-uses_undefined_in-in-Some.ensures d known
          ∙ ap (λ o. same && uses_undefined d o) (sym c.in-Some.is ∙ c.in_ok-expr.ensures reads is);
    }
