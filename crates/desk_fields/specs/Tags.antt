-- The tags that are read (SPDX 2.3, clauses 6 to 11), those that are skipped, and all others.
use Rattle.std.specs.Prelude.{ℕ, Bool, ◌||◌, ◌==◌, List, [], Option, Some, None, unwrap_or, codes}
use Rattle.std.specs.Prelude.{nat_eq, if◌then◌else◌}
use Rattle.std.specs.List.{starts_with}
use Rattle.std.specs.Str.{bytes_eq}
use Rattle.desk_fields.specs.declared.tag.Tag.{Tag}
use Rattle.desk_fields.specs.declared.tag.Tag.TheVariants as tags

-- clause 6, and the identifier of clauses 7.2 and 8.2
abbrev pub document_tag : List ℕ → Option Tag
document_tag text =
    if bytes_eq text (codes "SPDXVersion") then Some tags.Version
    else (if bytes_eq text (codes "DataLicense") then Some tags.DataLicense
    else (if bytes_eq text (codes "SPDXID") then Some tags.Identifier
    else (if bytes_eq text (codes "DocumentName") then Some tags.DocumentName
    else (if bytes_eq text (codes "DocumentNamespace") then Some tags.DocumentNamespace
    else (if bytes_eq text (codes "Creator") then Some tags.Creator
    else (if bytes_eq text (codes "Created") then Some tags.Created
    else None))))))

-- clause 7
abbrev pub package_tag : List ℕ → Option Tag
package_tag text =
    if bytes_eq text (codes "PackageName") then Some tags.PackageName
    else (if bytes_eq text (codes "PackageVersion") then Some tags.PackageVersion
    else (if bytes_eq text (codes "PackageDownloadLocation") then Some tags.DownloadLocation
    else (if bytes_eq text (codes "FilesAnalyzed") then Some tags.FilesAnalyzed
    else (if bytes_eq text (codes "PackageVerificationCode") then Some tags.VerificationCode
    else (if bytes_eq text (codes "PackageLicenseConcluded") then Some tags.PackageConcluded
    else (if bytes_eq text (codes "PackageLicenseDeclared") then Some tags.PackageDeclared
    else (if bytes_eq text (codes "PackageCopyrightText") then Some tags.PackageCopyright
    else None)))))))

-- clause 8
abbrev pub file_tag : List ℕ → Option Tag
file_tag text =
    if bytes_eq text (codes "FileName") then Some tags.FileName
    else (if bytes_eq text (codes "FileChecksum") then Some tags.FileChecksum
    else (if bytes_eq text (codes "LicenseConcluded") then Some tags.FileConcluded
    else (if bytes_eq text (codes "LicenseInfoInFile") then Some tags.FileLicense
    else (if bytes_eq text (codes "FileCopyrightText") then Some tags.FileCopyright
    else None))))

-- clauses 9.1, 10.1, 10.2 and 11.1
abbrev pub other_tag : List ℕ → Option Tag
other_tag text =
    if bytes_eq text (codes "SnippetSPDXID") then Some tags.SnippetIdentifier
    else (if bytes_eq text (codes "LicenseID") then Some tags.LicenseIdentifier
    else (if bytes_eq text (codes "ExtractedText") then Some tags.ExtractedText
    else (if bytes_eq text (codes "Relationship") then Some tags.Relationship
    else None)))

-- how the standard's other tags begin, and those that begin otherwise
abbrev pub begins_as_element : List ℕ → Bool
begins_as_element text =
    starts_with nat_eq text (codes "Package") || starts_with nat_eq text (codes "File")
    || starts_with nat_eq text (codes "Snippet") || starts_with nat_eq text (codes "License")

-- how CreatorComment, DocumentComment (clauses 6.10 and 6.11) and SPDXREF (clause 12.4) begin
abbrev pub begins_as_document : List ℕ → Bool
begins_as_document text =
    starts_with nat_eq text (codes "Creator") || starts_with nat_eq text (codes "Document")
    || starts_with nat_eq text (codes "SPDXREF")

-- the same of annotations (clause 12), reviews (clause 13), external references (clauses 6.6 and
-- 7.21), comments on relationships (clause 11.2) and remarks on the document
abbrev pub begins_as_remark : List ℕ → Bool
begins_as_remark text =
    starts_with nat_eq text (codes "Annotat") || starts_with nat_eq text (codes "Review")
    || starts_with nat_eq text (codes "External") || starts_with nat_eq text (codes "Relationship")
    || begins_as_document text

-- tags of packages that begin otherwise (clauses 7.24 to 7.27); only these very words
abbrev pub is_date_or_purpose : List ℕ → Bool
is_date_or_purpose text =
    bytes_eq text (codes "PrimaryPackagePurpose") || bytes_eq text (codes "BuiltDate")
    || bytes_eq text (codes "ReleaseDate") || bytes_eq text (codes "ValidUntilDate")

-- a tag of the standard that the desk doesn't read: it is no finding
abbrev pub is_read_over : List ℕ → Bool
is_read_over text = begins_as_element text || begins_as_remark text || is_date_or_purpose text

-- what a tag is; a tag that the standard doesn't have is Unknown
abbrev pub tag_of : List ℕ → Tag
tag_of text =
    unwrap_or (document_tag text)
    (unwrap_or (package_tag text) (unwrap_or (file_tag text) (unwrap_or (other_tag text)
    (if is_read_over text then tags.ReadOver else tags.Unknown))))

-- the tag as it is in a document
abbrev pub tag_name : Tag → List ℕ
tag_name tags.Version = codes "SPDXVersion"
tag_name tags.DataLicense = codes "DataLicense"
tag_name tags.Identifier = codes "SPDXID"
tag_name tags.DocumentName = codes "DocumentName"
tag_name tags.DocumentNamespace = codes "DocumentNamespace"
tag_name tags.Creator = codes "Creator"
tag_name tags.Created = codes "Created"
tag_name tags.PackageName = codes "PackageName"
tag_name tags.PackageVersion = codes "PackageVersion"
tag_name tags.DownloadLocation = codes "PackageDownloadLocation"
tag_name tags.FilesAnalyzed = codes "FilesAnalyzed"
tag_name tags.VerificationCode = codes "PackageVerificationCode"
tag_name tags.PackageConcluded = codes "PackageLicenseConcluded"
tag_name tags.PackageDeclared = codes "PackageLicenseDeclared"
tag_name tags.PackageCopyright = codes "PackageCopyrightText"
tag_name tags.FileName = codes "FileName"
tag_name tags.FileChecksum = codes "FileChecksum"
tag_name tags.FileConcluded = codes "LicenseConcluded"
tag_name tags.FileLicense = codes "LicenseInfoInFile"
tag_name tags.FileCopyright = codes "FileCopyrightText"
tag_name tags.SnippetIdentifier = codes "SnippetSPDXID"
tag_name tags.LicenseIdentifier = codes "LicenseID"
tag_name tags.ExtractedText = codes "ExtractedText"
tag_name tags.Relationship = codes "Relationship"
tag_name tags.ReadOver = []
tag_name tags.Unknown = []

-- the place of a tag among all
abbrev pub tag_place : Tag → ℕ
tag_place tags.Version = 0
tag_place tags.DataLicense = 1
tag_place tags.Identifier = 2
tag_place tags.DocumentName = 3
tag_place tags.DocumentNamespace = 4
tag_place tags.Creator = 5
tag_place tags.Created = 6
tag_place tags.PackageName = 7
tag_place tags.PackageVersion = 8
tag_place tags.DownloadLocation = 9
tag_place tags.FilesAnalyzed = 10
tag_place tags.VerificationCode = 11
tag_place tags.PackageConcluded = 12
tag_place tags.PackageDeclared = 13
tag_place tags.PackageCopyright = 14
tag_place tags.FileName = 15
tag_place tags.FileChecksum = 16
tag_place tags.FileConcluded = 17
tag_place tags.FileLicense = 18
tag_place tags.FileCopyright = 19
tag_place tags.SnippetIdentifier = 20
tag_place tags.LicenseIdentifier = 21
tag_place tags.ExtractedText = 22
tag_place tags.Relationship = 23
tag_place tags.ReadOver = 24
tag_place tags.Unknown = 25

-- two tags are the same
abbrev pub same_tag : Tag → Tag → Bool
same_tag a b = tag_place a == tag_place b
