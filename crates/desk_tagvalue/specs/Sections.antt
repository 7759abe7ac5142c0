-- The sections of a document (SPDX 2.3, clauses 6 to 10): which tag begins one, where a tag is
-- read, and how often it may occur.
use Rattle.std.specs.Prelude.{Bool, true, false, Option, Some, None}
use Rattle.desk_fields.specs.declared.tag.Tag.{Tag}
use Rattle.desk_fields.specs.declared.tag.Tag.TheVariants as tags
use Rattle.desk_tagvalue.specs.declared.sections.SectionKind.{SectionKind}
use Rattle.desk_tagvalue.specs.declared.sections.SectionKind.TheVariants as kinds
use Rattle.desk_tagvalue.specs.declared.sections.IdForm.{IdForm}
use Rattle.desk_tagvalue.specs.declared.sections.IdForm.TheVariants as forms

-- clauses 7.1, 8.1, 9.1 and 10.1
abbrev pub section_begun : Tag → Option SectionKind
section_begun tags.PackageName = Some kinds.Package
section_begun tags.FileName = Some kinds.File
section_begun tags.SnippetIdentifier = Some kinds.Snippet
section_begun tags.LicenseIdentifier = Some kinds.Extracted
section_begun _ = None

-- the sections in which SPDXID is read (clauses 6.3, 7.2 and 8.2); a snippet and an extracted
-- licence have their identifiers in the tag that begins them
abbrev pub has_identifier : SectionKind → Bool
has_identifier kinds.Document = true
has_identifier kinds.Package = true
has_identifier kinds.File = true
has_identifier _ = false

-- the section of a package
abbrev pub is_package : SectionKind → Bool
is_package kinds.Package = true
is_package _ = false

-- the section of a file
abbrev pub is_file : SectionKind → Bool
is_file kinds.File = true
is_file _ = false

-- the section of an extracted licence
abbrev pub is_extracted : SectionKind → Bool
is_extracted kinds.Extracted = true
is_extracted _ = false

-- in which sections a tag is read; a document's tags, except for its identifier, are read in each
abbrev pub is_placed : SectionKind → Tag → Bool
is_placed kind tags.Identifier = has_identifier kind
is_placed kind tags.PackageVersion = is_package kind
is_placed kind tags.DownloadLocation = is_package kind
is_placed kind tags.FilesAnalyzed = is_package kind
is_placed kind tags.VerificationCode = is_package kind
is_placed kind tags.PackageConcluded = is_package kind
is_placed kind tags.PackageDeclared = is_package kind
is_placed kind tags.PackageCopyright = is_package kind
is_placed kind tags.FileChecksum = is_file kind
is_placed kind tags.FileConcluded = is_file kind
is_placed kind tags.FileLicense = is_file kind
is_placed kind tags.FileCopyright = is_file kind
is_placed kind tags.ExtractedText = is_extracted kind
is_placed kind _ = true

-- once in a document: clauses 6.1, 6.2, 6.4, 6.5 and 6.9 (a creator, 6.8, may occur any number of
-- times)
abbrev pub once_in_document : Tag → Bool
once_in_document tags.Version = true
once_in_document tags.DataLicense = true
once_in_document tags.DocumentName = true
once_in_document tags.DocumentNamespace = true
once_in_document tags.Created = true
once_in_document _ = false

-- once in a section: clauses 6.3, 7.2, 7.3, 7.7 to 7.9, 7.13, 7.15, 7.17, 8.2, 8.5, 8.8 and 10.2
-- (checksums, 8.4, and licences in a file, 8.6, may occur any number of times)
abbrev pub once_in_section : Tag → Bool
once_in_section tags.Identifier = true
once_in_section tags.PackageVersion = true
once_in_section tags.DownloadLocation = true
once_in_section tags.FilesAnalyzed = true
once_in_section tags.VerificationCode = true
once_in_section tags.PackageConcluded = true
once_in_section tags.PackageDeclared = true
once_in_section tags.PackageCopyright = true
once_in_section tags.FileConcluded = true
once_in_section tags.FileCopyright = true
once_in_section tags.ExtractedText = true
once_in_section _ = false

-- what SPDXID names in each section
abbrev pub named_by_identifier : SectionKind → Option IdForm
named_by_identifier kinds.Document = Some forms.Document
named_by_identifier kinds.Package = Some forms.Element
named_by_identifier kinds.File = Some forms.Element
named_by_identifier _ = None

-- what a field names, by the section that it is in
abbrev pub id_form : SectionKind → Tag → Option IdForm
id_form kind tags.Identifier = named_by_identifier kind
id_form kind tags.SnippetIdentifier = Some forms.Element
id_form kind tags.LicenseIdentifier = Some forms.Licence
id_form kind _ = None
