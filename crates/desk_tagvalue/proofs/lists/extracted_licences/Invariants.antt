use Rattle.std.proofs.Common.{◌≡◌, ◌++◌, drop}
use Rattle.std.specs.Prelude.{map}
use Rattle.desk_fields.specs.declared.tag.Tag.TheVariants as tags
use Rattle.desk_tagvalue.specs.Entries.{entry_text}
use Rattle.desk_tagvalue.specs.Parts.{parts_of, extracted_of}
use Rattle.desk_tagvalue.specs.Views.{extracted_text}
use Rattle.desk_tagvalue.proofs.lists.extracted_licences.Given as goal

-- those found and those in what is left are all
abbrev pub invariant-loop-i : goal.invariant-loop-i
invariant-loop-i l = map extracted_text l.found.items
    ++ parts_of tags.LicenseIdentifier extracted_of (map entry_text (drop l.i l.entries))
    ≡ parts_of tags.LicenseIdentifier extracted_of (map entry_text l.entries)
