use Rattle.std.proofs.Common.{◌≡◌, ◌∙◌, ◌++◌, ◌∷◌, [], ap, ne_eqb, sym, if◌then◌else◌}
use Rattle.std.proofs.lemmas.Result.{on_ok_weaker}
use Rattle.desk_base.specs.Terminal.{shown, shown_char}
use Rattle.desk_report.specs.Terminal.{line_char}
use Rattle.desk_report.proofs.Shown.{shown_one}
use Rattle.desk_report.proofs.terminal.add_line_char.Goals as goal

pub returns : goal.returns
returns c =
    let line : line_char c.args.ch ≡ shown_char c.args.ch = ap
    (λ b. if b then 10 ∷ [] else shown_char c.args.ch) (ne_eqb c.args.ch 10 c.if-ch-eq10.false) in
    let one : shown c.encode_utf8.result.now ≡ line_char c.args.ch =
    shown_one c.args.ch c.encode_utf8.result.now c.encode_utf8.utf8 c.encode_utf8.ensures.value
    ∙ sym line in
    on_ok_weaker c.add_shown.result
    (λ added. added ∙ ap (λ text. c.args.bytes.now.items ++ text) one) c.add_shown.ensures
