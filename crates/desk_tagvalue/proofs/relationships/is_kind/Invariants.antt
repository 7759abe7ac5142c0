use Rattle.std.proofs.Common.{◌≡◌, drop}
use Rattle.std.specs.List.{list_all}
use Rattle.desk_tagvalue.specs.Relationships.{is_kind_byte}
use Rattle.desk_tagvalue.proofs.relationships.is_kind.Given as goal

-- the bytes passed over may be in a type
abbrev pub invariant-loop-byte : goal.invariant-loop-byte
invariant-loop-byte l = list_all is_kind_byte l.byte-items
    ≡ list_all is_kind_byte (drop l.byte-index l.byte-items)
