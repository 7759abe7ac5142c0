-- That a document says what a draft says.
use Rattle.std.specs.Prelude.{◌≡◌, ℕ, ◌+◌, List, [], ◌∷◌, ◌++◌, Some, codes}
use Rattle.std.specs.Fmt.{decimal}
use Rattle.hex.specs.Hex.{encode_lower}
use Rattle.desk_fields.specs.declared.tag.Tag.TheVariants as tags
use Rattle.desk_tagvalue.specs.declared.drafts.Draft.{Draft}
use Rattle.desk_tagvalue.specs.declared.drafts.DraftFile.{DraftFile}
use Rattle.desk_tagvalue.specs.Entries.{value_of}
use Rattle.desk_tagvalue.specs.Parts.{DocumentText, PackageText, FileText, EdgeText}

-- the package of a draft
pub record IsPackage (d : Draft) (p : PackageText) : Type 0 where
  pub name : p.name ≡ d.name
  pub id : p.id ≡ codes "SPDXRef-Package"
  pub code : p.verification_code ≡ Some d.code
  pub concluded : p.concluded ≡ Some d.concluded
  pub copyright : p.copyright ≡ Some d.copyright

-- there is one package, and it is the draft's
abbrev pub IsOnlyPackage : Draft → List PackageText → Type 0
IsOnlyPackage d (p ∷ []) = IsPackage d p
IsOnlyPackage d _ = ⊥

-- the file of a draft with a number
pub record IsFile (k : ℕ) (f : DraftFile) (x : FileText) : Type 0 where
  pub name : x.name ≡ codes "./" ++ f.path
  pub id : x.id ≡ codes "SPDXRef-File-" ++ decimal k
  pub sha1 : x.sha1 ≡ Some (encode_lower f.digest)
  pub concluded : x.concluded ≡ Some f.concluded
  pub copyright : x.copyright ≡ Some f.copyright

-- the files of a draft in order, numbered from k
abbrev pub AreFiles : ℕ → List DraftFile → List FileText → Type 0
AreFiles k [] [] = Unit {0}
AreFiles k (f ∷ fs) (x ∷ xs) = IsFile k f x × AreFiles (k + 1) fs xs
AreFiles k _ _ = ⊥

-- the document describes its package
abbrev pub IsOnlyEdge : List EdgeText → Type 0
IsOnlyEdge (e ∷ []) = (e.left ≡ codes "SPDXRef-DOCUMENT") × (e.kind ≡ codes "DESCRIBES")
    × (e.right ≡ codes "SPDXRef-Package")
IsOnlyEdge _ = ⊥

-- the document says what the draft says and nothing else: one package, the draft's files in order,
-- and one relationship
pub record GivesDraft (d : Draft) (x : DocumentText) : Type 0 where
  pub name : x.name ≡ d.name
  pub namespace : x.namespace ≡ d.namespace
  pub created : value_of tags.Created x.entries ≡ Some d.created
  pub packages : IsOnlyPackage d x.packages
  pub files : AreFiles 1 d.files x.files
  pub snippets : x.snippets ≡ []
  pub extracted : x.extracted ≡ []
  pub edges : IsOnlyEdge x.edges
