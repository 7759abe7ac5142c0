use Rattle.std.proofs.Common.{◌≡◌, ◌∙◌, ◌++◌, codes, sym, ap, nat_cmp}
use Rattle.std.specs.Prelude.{[], if◌then◌else◌}
use Rattle.std.specs.Cmp.Lexicographic.{slice_cmp}
use Rattle.desk_expr.specs.Printing.{printed_exception}
use Rattle.desk_catalogue.proofs.Sought.{side_behind, printed}
use Rattle.desk_catalogue.proofs.ordered.side_of_term.Goals as goal

pub returns-in-Ok : goal.returns-in-Ok
returns-in-Ok c =
    let text = c.args.text.now in
    let term = c.args.term.now in
    let rest = c.in-Ok.rest.now in
    let key = c.as_bytes-2.ensures.value ∙ c.as_str.ensures in
    let cut : text ≡ term.key ++ rest = sym c.as_bytes.ensures.value ∙ c.in-Ok.ensures.ok
    ∙ ap (λ k. k ++ rest) key in
    c.side_behind_key.ensures ∙ side_behind text term.key rest
    ((if term.plus then codes "+" else []) ++ printed_exception term.exception) cut
    ∙ ap (slice_cmp nat_cmp text) (printed term)
