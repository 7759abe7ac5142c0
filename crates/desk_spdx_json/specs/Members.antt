-- The members of the objects of a document (SPDX 2.3, JSON schema), each with the field of the
-- tag-value form that says the same (clauses 6 to 11), in the order in which the fields are
-- written.
use Rattle.std.specs.Prelude.{ℕ, Bool, true, false, List, [], ◌∷◌, codes}
use Rattle.desk_fields.specs.declared.tag.Tag.TheVariants as tags
use Rattle.desk_spdx_json.specs.declared.steps.Kind.TheVariants as kinds
use Rattle.desk_spdx_json.specs.declared.members.Form.{Form}
use Rattle.desk_spdx_json.specs.declared.members.Form.TheVariants as forms
use Rattle.desk_spdx_json.specs.declared.members.Member.{Member}

-- a member: its key, what its value is, and whether it must be there
pub record MemberText : Type 0 where
  pub key : List ℕ
  pub form : Form
  pub is_needed : Bool

-- the same, apart from where the key is in memory
abbrev pub member_text : Member → MemberText
member_text m = record { key = m.key.now; form = m.form; is_needed = m.is_needed }

-- a required member, and an optional one
abbrev pub needed : List ℕ → Form → MemberText
needed key form = record { key = key; form = form; is_needed = true }

-- and one that may be absent
abbrev pub perhaps : List ℕ → Form → MemberText
perhaps key form = record { key = key; form = form; is_needed = false }

-- clause 6
abbrev pub document_members : List MemberText
document_members =
    needed (codes "spdxVersion") (forms.OneLine tags.Version)
    ∷ perhaps (codes "dataLicense") (forms.OneLine tags.DataLicense)
    ∷ needed (codes "SPDXID") (forms.OneLine tags.Identifier)
    ∷ needed (codes "name") (forms.OneLine tags.DocumentName)
    ∷ needed (codes "documentNamespace") (forms.OneLine tags.DocumentNamespace)
    ∷ perhaps (codes "externalDocumentRefs") (forms.LeftOut kinds.ExternalDocument)
    ∷ perhaps (codes "annotations") (forms.LeftOut kinds.Annotation)
    ∷ perhaps (codes "creationInfo") forms.Elsewhere
    ∷ perhaps (codes "files") forms.Elsewhere
    ∷ perhaps (codes "snippets") forms.Elsewhere
    ∷ perhaps (codes "packages") forms.Elsewhere
    ∷ perhaps (codes "hasExtractedLicensingInfos") forms.Elsewhere
    ∷ perhaps (codes "documentDescribes") forms.Elsewhere
    ∷ perhaps (codes "relationships") forms.Elsewhere
    ∷ []

-- clauses 6.8 and 6.9
abbrev pub creation_members : List MemberText
creation_members =
    perhaps (codes "creators") (forms.Texts tags.Creator)
    ∷ perhaps (codes "created") (forms.OneLine tags.Created)
    ∷ []

-- clause 7
abbrev pub package_members : List MemberText
package_members =
    needed (codes "name") (forms.OneLine tags.PackageName)
    ∷ needed (codes "SPDXID") (forms.OneLine tags.Identifier)
    ∷ perhaps (codes "versionInfo") (forms.OneLine tags.PackageVersion)
    ∷ perhaps (codes "downloadLocation") (forms.OneLine tags.DownloadLocation)
    ∷ perhaps (codes "filesAnalyzed") (forms.Flag tags.FilesAnalyzed)
    ∷ perhaps (codes "packageVerificationCode") (forms.Code tags.VerificationCode)
    ∷ perhaps (codes "licenseConcluded") (forms.OneLine tags.PackageConcluded)
    ∷ perhaps (codes "licenseDeclared") (forms.OneLine tags.PackageDeclared)
    ∷ perhaps (codes "copyrightText") (forms.Copyright tags.PackageCopyright)
    ∷ perhaps (codes "externalRefs") (forms.LeftOut kinds.ExternalReference)
    ∷ perhaps (codes "annotations") (forms.LeftOut kinds.Annotation)
    ∷ perhaps (codes "hasFiles") forms.Elsewhere
    ∷ []

-- clause 8
abbrev pub file_members : List MemberText
file_members =
    needed (codes "fileName") (forms.OneLine tags.FileName)
    ∷ needed (codes "SPDXID") (forms.OneLine tags.Identifier)
    ∷ perhaps (codes "checksums") (forms.Checksums tags.FileChecksum)
    ∷ perhaps (codes "licenseConcluded") (forms.OneLine tags.FileConcluded)
    ∷ perhaps (codes "licenseInfoInFiles") (forms.Texts tags.FileLicense)
    ∷ perhaps (codes "copyrightText") (forms.Copyright tags.FileCopyright)
    ∷ perhaps (codes "annotations") (forms.LeftOut kinds.Annotation)
    ∷ []

-- clause 9
abbrev pub snippet_members : List MemberText
snippet_members =
    needed (codes "SPDXID") (forms.OneLine tags.SnippetIdentifier)
    ∷ perhaps (codes "annotations") (forms.LeftOut kinds.Annotation)
    ∷ []

-- clause 10
abbrev pub extracted_members : List MemberText
extracted_members =
    needed (codes "licenseId") (forms.OneLine tags.LicenseIdentifier)
    ∷ perhaps (codes "extractedText") (forms.InText tags.ExtractedText)
    ∷ []

-- clause 11
abbrev pub relationship_members : List MemberText
relationship_members =
    perhaps (codes "spdxElementId") forms.Elsewhere
    ∷ perhaps (codes "relationshipType") forms.Elsewhere
    ∷ perhaps (codes "relatedSpdxElement") forms.Elsewhere
    ∷ []
