-- The draft of a tree (SPDX 2.3, clauses 6 to 8).
use Rattle.std.specs.Prelude.{ℕ, Bool, List, [], ◌∷◌, Ok, if◌then◌else◌}
use Rattle.std.specs.List.{list_any, flat_map}
use Rattle.sha1.specs.Sha1.{sha1}
use Rattle.desk_model.specs.Texts.{sorted_set}
use Rattle.desk_tagvalue.specs.declared.drafts.Draft.{Draft}
use Rattle.desk_tagvalue.specs.declared.drafts.DraftFile.{DraftFile}
use Rattle.desk_tree_gather.specs.declared.files.SourceFile.{SourceFile}
use Rattle.desk_tree_infos.specs.declared.infos.FileInfo.{FileInfo}
use Rattle.desk_tree_infos.specs.Readers.{Reader}
use Rattle.desk_tree_gather.specs.Trees.{Read, bytes_of, tree_of}
use Rattle.desk_tree_gather.specs.Gathering.{gathered}
use Rattle.desk_tree_infos.specs.Sharing.{is_none}
use Rattle.desk_tree_document.specs.Texts.{expression_read, copyright_of}
use Rattle.desk_base.specs.Results.{then_read, followed}

-- the document's name, its namespace, and when it was made
pub record Named : Type 0 where
  pub name : List ℕ
  pub namespace : List ℕ
  pub created : List ℕ

-- ---- files

-- a covered file in the draft: its path, the SHA1 of its bytes (clause 8.4), its licences as one
-- expression (8.5) and its notices (8.8)
abbrev pub file_of : Reader → List SourceFile → FileInfo → Read DraftFile
file_of r tree info =
    then_read (expression_read r.reading info.licences) (λ concluded.
    Ok (record {
      path = info.path;
      digest = sha1 (bytes_of tree info.path);
      concluded = concluded;
      copyright = copyright_of info.notices;
    }))

-- the same for files in their order, or the first fault
abbrev pub files_of : Reader → List SourceFile → List FileInfo → Read (List DraftFile)
files_of r tree [] = Ok []
files_of r tree (i ∷ is) = followed (file_of r tree i) (files_of r tree is)

-- ---- the package

-- the file has no licence
abbrev pub is_bare : FileInfo → Bool
is_bare info = is_none info.licences

-- the distinct licences of all files; none if some file has none
abbrev pub package_licences : List FileInfo → List (List ℕ)
package_licences infos = if list_any is_bare infos then []
    else sorted_set (flat_map (λ i. i.licences) infos)

-- the distinct notices of all files
abbrev pub package_notices : List FileInfo → List (List ℕ)
package_notices infos = sorted_set (flat_map (λ i. i.notices) infos)

-- ---- the whole, with a verification code

-- the draft from its files and a verification code; the package's licence (7.13) and copyright
-- (7.17) are those of all files together
abbrev pub draft_with : Reader → Named → List FileInfo → List DraftFile → List ℕ → Read Draft
draft_with r title infos files code =
    then_read (expression_read r.reading (package_licences infos)) (λ concluded.
    Ok (record {
      name = title.name;
      namespace = title.namespace;
      created = title.created;
      code = code;
      concluded = concluded;
      copyright = copyright_of (package_notices infos);
      files = files;
    }))

-- the draft of a tree with this verification code, or the first fault
abbrev pub draft_of : Reader → List SourceFile → Named → List ℕ → Read Draft
draft_of r files title code =
    then_read (gathered r files) (λ infos.
    then_read (tree_of files) (λ tree.
    then_read (files_of r tree infos) (λ drafted.
    draft_with r title infos drafted code)))
