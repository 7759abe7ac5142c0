-- The lines of a draft: the document (SPDX 2.3, clause 6), its one package (clause 7), which it
-- describes (clause 11), and the package's files (clause 8).
use Rattle.std.specs.Prelude.{ℕ, ◌+◌, List, [], ◌∷◌, ◌++◌, codes, if◌then◌else◌}
use Rattle.std.specs.List.{flat_map}
use Rattle.std.specs.Str.{bytes_eq}
use Rattle.std.specs.Fmt.{decimal}
use Rattle.hex.specs.Hex.{encode_lower}
use Rattle.desk_fields.specs.declared.tag.Tag.{Tag}
use Rattle.desk_fields.specs.declared.tag.Tag.TheVariants as tags
use Rattle.desk_fields.specs.Tags.{tag_name}
use Rattle.desk_tagvalue.specs.declared.drafts.Draft.{Draft}
use Rattle.desk_tagvalue.specs.declared.drafts.DraftFile.{DraftFile}
use Rattle.desk_tagvalue.specs.declared.drafts.DraftLine.{DraftLine}
use Rattle.desk_tagvalue.specs.declared.drafts.DraftLine.TheVariants.{Blank, OneLine, InText}

-- a blank line, a field on one line, or a field in <text>
pub data LineText : Type 0 where
  blank : LineText
  one_line : (tag : Tag) (value : List ℕ) → LineText
  in_text : (tag : Tag) (value : List ℕ) → LineText

-- a line of a draft, apart from where its value is in memory
abbrev pub line_text : DraftLine → LineText
line_text Blank = blank
line_text (OneLine tag value) = one_line tag value.now
line_text (InText tag value) = in_text tag value.now

-- the bytes of a line; each line ends by LF
abbrev pub spelled : LineText → List ℕ
spelled blank = 10 ∷ []
spelled (one_line tag value) = tag_name tag ++ (codes ": " ++ (value ++ (10 ∷ [])))
spelled (in_text tag value) = tag_name tag
    ++ (codes ": <text>" ++ (value ++ (codes "</text>" ++ (10 ∷ []))))

-- anything but NOASSERTION is in <text>
abbrev pub copyright_line : Tag → List ℕ → LineText
copyright_line tag value = if bytes_eq value (codes "NOASSERTION") then one_line tag value
    else in_text tag value

-- the lines of the document and of its package; the package bears the document's name and is
-- described by it
abbrev pub head_lines : Draft → List LineText
head_lines d =
    one_line tags.Version (codes "SPDX-2.3")
    ∷ one_line tags.DataLicense (codes "CC0-1.0")
    ∷ one_line tags.Identifier (codes "SPDXRef-DOCUMENT")
    ∷ one_line tags.DocumentName d.name
    ∷ one_line tags.DocumentNamespace d.namespace
    ∷ one_line tags.Creator (codes "Tool: licence-desk-1")
    ∷ one_line tags.Created d.created
    ∷ blank
    ∷ one_line tags.PackageName d.name
    ∷ one_line tags.Identifier (codes "SPDXRef-Package")
    ∷ one_line tags.DownloadLocation (codes "NOASSERTION")
    ∷ one_line tags.FilesAnalyzed (codes "true")
    ∷ one_line tags.VerificationCode d.code
    ∷ one_line tags.PackageConcluded d.concluded
    ∷ copyright_line tags.PackageCopyright d.copyright
    ∷ one_line tags.Relationship (codes "SPDXRef-DOCUMENT DESCRIBES SPDXRef-Package")
    ∷ []

-- an empty line and the fields of a file, from its name, its identifier and its checksum as they
-- are printed
abbrev pub lines_of_file : List ℕ → List ℕ → List ℕ → DraftFile → List LineText
lines_of_file name id checksum f =
    blank
    ∷ one_line tags.FileName name
    ∷ one_line tags.Identifier id
    ∷ one_line tags.FileChecksum checksum
    ∷ one_line tags.FileConcluded f.concluded
    ∷ copyright_line tags.FileCopyright f.copyright
    ∷ []

-- the lines of the file with number k
abbrev pub file_lines : ℕ → DraftFile → List LineText
file_lines k f = lines_of_file (codes "./" ++ f.path) (codes "SPDXRef-File-" ++ decimal k)
    (codes "SHA1: " ++ encode_lower f.digest) f

-- the lines of files, numbered from k
abbrev pub files_lines : ℕ → List DraftFile → List LineText
files_lines k [] = []
files_lines k (f ∷ fs) = file_lines k f ++ files_lines (k + 1) fs

-- all lines of a draft: the head, then its files, numbered from 1
abbrev pub draft_lines : Draft → List LineText
draft_lines d = head_lines d ++ files_lines 1 d.files

-- the text of some lines
abbrev pub text_of_lines : List LineText → List ℕ
text_of_lines ls = flat_map spelled ls
