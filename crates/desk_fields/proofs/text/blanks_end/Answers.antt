use Rattle.std.proofs.Common.{subst, sym, ap, ◌∙◌}
use Rattle.std.specs.List.{prefix_len}
use Rattle.std.specs.Str.{IsCharBoundary}
use Rattle.desk_fields.proofs.Cuts.{blanks_cut}
use Rattle.desk_fields.proofs.text.blanks_end.Goals as goal
use Rattle.desk_base.specs.Bytes.{is_blank}

pub returns-clause-cut : goal.returns-clause-cut
returns-clause-cut c =
    let is = c.as_bytes.ensures.value in
    subst (IsCharBoundary c.args.text.now) (sym (c.blanks.ensures ∙ ap (prefix_len is_blank) is))
    (blanks_cut c.args.text.now c.utf8.text)
