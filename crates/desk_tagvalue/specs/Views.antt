-- The parts of a document, apart from where they are in memory.
use Rattle.desk_tagvalue.specs.declared.parts.Package.{Package}
use Rattle.desk_tagvalue.specs.declared.parts.FileEntry.{FileEntry}
use Rattle.desk_tagvalue.specs.declared.parts.Snippet.{Snippet}
use Rattle.desk_tagvalue.specs.declared.parts.Extracted.{Extracted}
use Rattle.desk_tagvalue.specs.declared.parts.Edge.{Edge}
use Rattle.desk_tagvalue.specs.Entries.{value_text}
use Rattle.desk_tagvalue.specs.Parts.{PackageText, FileText, SnippetText, ExtractedText, EdgeText}

-- the texts that a package borrows
abbrev pub package_text : Package → PackageText
package_text p = record {
  line = p.line;
  name = p.name.now;
  id = p.id.now;
  version = value_text p.version;
  download_location = value_text p.download_location;
  files_analyzed = value_text p.files_analyzed;
  verification_code = value_text p.verification_code;
  concluded = value_text p.concluded;
  declared = value_text p.declared;
  copyright = value_text p.copyright;
}

-- the texts that a file borrows
abbrev pub file_text : FileEntry → FileText
file_text f = record {
  line = f.line;
  name = f.name.now;
  id = f.id.now;
  sha1 = value_text f.sha1;
  concluded = value_text f.concluded;
  copyright = value_text f.copyright;
}

-- the text that a snippet borrows
abbrev pub snippet_text : Snippet → SnippetText
snippet_text s = record { line = s.line; id = s.id.now }

-- the texts that an extracted licence borrows
abbrev pub extracted_text : Extracted → ExtractedText
extracted_text x = record { line = x.line; id = x.id.now; text = value_text x.text }

-- the three words that a relationship borrows
abbrev pub edge_text : Edge → EdgeText
edge_text e = record { line = e.line; left = e.left.now; kind = e.kind.now; right = e.right.now }
