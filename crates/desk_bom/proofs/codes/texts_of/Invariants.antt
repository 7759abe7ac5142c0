use Rattle.std.proofs.Common.{◌≡◌, take}
use Rattle.std.specs.Prelude.{map}
use Rattle.hex.specs.Hex.{encode_lower}
use Rattle.desk_bom.proofs.codes.texts_of.Given as goal

abbrev pub invariant-loop-digest : goal.invariant-loop-digest
invariant-loop-digest l = l.texts.items ≡ map encode_lower (take l.digest-index l.digests)
