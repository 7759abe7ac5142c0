use Rattle.std.proofs.Common.{refl}
use Rattle.desk_base.proofs.Shown.{hidden, same, shown_chars}
use Rattle.desk_base.proofs.terminal.shown_texts_are_inert.Goals as goal

pub returns : goal.returns
returns c = record {
  each = shown_chars;
  hidden = hidden;
  same = same;
  controls = refl;
  directions = refl;
}
