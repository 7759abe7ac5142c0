use Rattle.std.proofs.Common.{◌∙◌, ◌++◌, ap, sym}
use Rattle.std.specs.String.{string_bytes}
use Rattle.std.proofs.lemmas.Result.{on_ok_weaker}
use Rattle.desk_base.proofs.Results.{OnOk-items}
use Rattle.desk_report.specs.Notices.{copyright_line, framed}
use Rattle.desk_report.proofs.notice.add_copyright.Goals as goal

pub returns-in-Some : goal.returns-in-Some
unfolding copyright_line
returns-in-Some c =
    on_ok_weaker c.add_framed.result
    (λ added. added ∙ ap (λ o. string_bytes c.args.text.now ++ copyright_line o) (sym c.in-Some.is))
    c.add_framed.ensures

pub returns-in-None : goal.returns-in-None
unfolding copyright_line framed
returns-in-None c =
    on_ok_weaker c.push_str.result
    (λ added. added ∙ ap (λ o. string_bytes c.args.text.now ++ copyright_line o) (sym c.in-None.is))
    (OnOk-items c.push_str.result _ _ _ c.push_str.ensures.bytes)
