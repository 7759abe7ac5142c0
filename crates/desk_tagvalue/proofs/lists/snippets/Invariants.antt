use Rattle.std.proofs.Common.{◌≡◌, ◌++◌, drop}
use Rattle.std.specs.Prelude.{map}
use Rattle.desk_fields.specs.declared.tag.Tag.TheVariants as tags
use Rattle.desk_tagvalue.specs.Entries.{entry_text}
use Rattle.desk_tagvalue.specs.Parts.{parts_of, snippet_of}
use Rattle.desk_tagvalue.specs.Views.{snippet_text}
use Rattle.desk_tagvalue.proofs.lists.snippets.Given as goal

-- those found and those in what is left are all
abbrev pub invariant-loop-entry : goal.invariant-loop-entry
invariant-loop-entry l = map snippet_text l.found.items
    ++ parts_of tags.SnippetIdentifier snippet_of (map entry_text (drop l.entry-index l.entries))
    ≡ parts_of tags.SnippetIdentifier snippet_of (map entry_text l.entries)
