use Rattle.std.proofs.Common.{◌≡◌, drop}
use Rattle.std.specs.List.{list_all}
use Rattle.desk_tagvalue.specs.Relationships.{is_document_byte}
use Rattle.desk_tagvalue.proofs.relationships.is_document_name.Given as goal

-- the bytes passed over may be in a document's name
abbrev pub invariant-loop-byte : goal.invariant-loop-byte
invariant-loop-byte l = list_all is_document_byte l.bytes
    ≡ list_all is_document_byte (drop l.byte-index l.bytes)
