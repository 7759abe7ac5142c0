use Rattle.std.proofs.Common.{refl}
use Rattle.desk_page.proofs.ReadBack.{read_back}
use Rattle.desk_page.proofs.escape.escaped_texts_are_read_back.Goals as goal

pub returns : goal.returns
returns c = record {
  read = read_back;
  controls = refl;
  noncharacters = refl;
  directions = refl;
}
