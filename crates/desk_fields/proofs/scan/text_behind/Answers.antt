use Rattle.std.proofs.Common.{ap, sym, ◌∙◌, ◌++◌}
use Rattle.desk_fields.proofs.Scans.{behind_is, behind_cut}
use Rattle.desk_fields.proofs.scan.text_behind.Goals as goal

pub split_at-requires : goal.split_at-requires
split_at-requires c =
    let at = c.requires.inner in
    behind_cut c.args.text.now c.args.line.now c.args.inner.now at.0 at.1 c.utf8.text
    c.requires.line at.2 at.3

pub returns : goal.returns
returns c = λ front e. behind_is c.args.text.now c.args.line.now c.args.inner.now front
    c.requires.line e ∙ ap (λ l. front ++ l) (sym c.split_at.ensures.back)
