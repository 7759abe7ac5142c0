use Rattle.std.proofs.Common.{◌∙◌, ap}
use Rattle.desk_fields.specs.Text.{trim_end}
use Rattle.desk_credits.specs.Patterns.{before_first, comment_ends}
use Rattle.desk_credits.proofs.patterns.inner.Goals as goal

pub returns : goal.returns
returns c = c.trim_end_bytes.ensures
    ∙ ap trim_end (c.before_first.ensures ∙ ap (before_first comment_ends) c.trimmed_bytes.ensures)
