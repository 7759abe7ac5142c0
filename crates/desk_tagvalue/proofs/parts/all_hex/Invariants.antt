use Rattle.std.proofs.Common.{◌≡◌, drop}
use Rattle.std.specs.List.{list_all}
use Rattle.desk_tagvalue.specs.Parts.{is_hex}
use Rattle.desk_tagvalue.proofs.parts.all_hex.Given as goal

-- the bytes passed over are hexadecimal digits
abbrev pub invariant-loop-byte : goal.invariant-loop-byte
invariant-loop-byte l = list_all is_hex l.bytes ≡ list_all is_hex (drop l.byte-index l.bytes)
