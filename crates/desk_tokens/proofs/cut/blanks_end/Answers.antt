use Rattle.desk_tokens.proofs.Cuts.{blanks_boundary, all_blank}
use Rattle.desk_tokens.proofs.cut.blanks_end.Goals as goal

pub returns-clause-cut : goal.returns-clause-cut
returns-clause-cut c =
    let is = c.as_bytes.ensures.value in
    let b = rw is at c.blanks.ensures in
    blanks_boundary c.args.text.now c.blanks.result c.utf8.text b.within b.blank

pub returns-clause-only : goal.returns-clause-only
returns-clause-only c =
    let is = c.as_bytes.ensures.value in
    let b = rw is at c.blanks.ensures in
    all_blank c.args.text.now c.blanks.result b.within b.blank
