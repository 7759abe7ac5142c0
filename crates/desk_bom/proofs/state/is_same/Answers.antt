use Rattle.std.proofs.Common.{◌∙◌, sym, ap}
use Rattle.desk_base.specs.Folded.{folded}
use Rattle.desk_bom.proofs.CodeLemmas.{folded-encode}
use Rattle.desk_bom.proofs.state.is_same.Goals as goal

pub returns : goal.returns
returns c = λ ds is.
    let small = ap folded is ∙ folded-encode ds ∙ sym is in
    let same = c.eq_ignore_ascii_case.ensures in (
      λ h. ap folded (sym c.as_bytes.ensures.value) ∙ same.test.0 h ∙ small,
      λ h. same.test.1 (ap folded c.as_bytes.ensures.value ∙ h ∙ sym small),
    )
