-- What a draft's text spells ships the draft's package, whose code agrees.
use Rattle.std.proofs.Common.{◌≡◌, ◌∙◌, List, [], ◌∷◌, ℕ, ap, sym, subst, refl, get_or, Some}
use Rattle.std.specs.Prelude.{All, codes, slice_get}
use Rattle.desk_tree_document.proofs.Contents.{files_of_package}
use Rattle.desk_tree_document.proofs.Shipping.{only_edge, package_marked, package_ships}
use Rattle.desk_tree_document.proofs.Spelled.{document_spelled}
use Rattle.desk_tree_document.proofs.States.{code_agrees}
use Rattle.desk_tree_document.specs.Shipping.{IsDigest, IsTextOf, ShipsWhenRead}
use Rattle.desk_fields.specs.declared.tag.Tag.TheVariants as tags
use Rattle.desk_tagvalue.specs.declared.drafts.Draft.{Draft}
use Rattle.desk_tagvalue.specs.declared.drafts.DraftFile.{DraftFile}
use Rattle.desk_tagvalue.specs.Entries.{EntryText, value_of}
use Rattle.desk_tagvalue.specs.Given.{GivesDraft, IsOnlyPackage, IsPackage}
use Rattle.desk_tagvalue.specs.Parts.{DocumentText, PackageText, document_of, package_of, parts_of, section_at}
use Rattle.desk_tagvalue.specs.Written.{IsDigestRead}
use Rattle.desk_tagvalue.proofs.Digests.{digest_read}
use Rattle.desk_tagvalue.proofs.DraftEntries.{entry, AreFileEntries, Places, head_entries, package_entries}
use Rattle.desk_tagvalue.proofs.DraftGiven.{draft_given, head_of_files, package_head}

only_package : (d : Draft) (ps : List PackageText) → IsOnlyPackage d ps
    → (p : PackageText) × (ps ≡ p ∷ []) × IsPackage d p
only_package d [] is = absurd is
only_package d (p ∷ []) is = (p, refl, is)
only_package d (p ∷ q ∷ ps) is = absurd is

-- FilesAnalyzed is true
analyzed : (d : Draft) (x : DocumentText) (at : Places) (rest : List EntryText) (p : PackageText)
    → x ≡ document_of (head_entries d at rest) → AreFileEntries 1 d.files rest → x.packages ≡ p ∷ []
    → p.files_analyzed ≡ Some (codes "true")
analyzed d x at rest p is files only =
    let written = package_of (section_at (entry at.h tags.PackageName d.name)
    (package_entries d at rest)) in
    let both : p ∷ [] ≡ written ∷ parts_of tags.PackageName package_of rest = sym only
    ∙ ap (λ y. y.packages) is in
    let same : p ≡ written = cc in
    ap (λ q. q.files_analyzed) same
    ∙ ap (value_of tags.FilesAnalyzed) (package_head d at rest (head_of_files 1 d.files rest files))

digests_read : (fs : List DraftFile) → All IsDigest fs → All IsDigestRead fs
digests_read fs digests i f within = let is = digests i f within in
    digest_read (get_or fs i f).digest is.0 is.1

pub ships_draft : (d : Draft) (text : List ℕ) → All IsDigest d.files → IsTextOf d text
    → ShipsWhenRead d text
ships_draft d text digests is x spells =
    let read = document_spelled d text x is.lines spells in
    let given = subst (GivesDraft d) (sym read.2)
    (draft_given d read.0 read.1 read.3 (digests_read d.files digests)) in
    let held = only_package d x.packages given.packages in
    let edge = only_edge x.edges given.edges in
    let files = files_of_package d x read.0 read.1 edge.0 (ap (λ y. y.entries) read.2) read.3 edge.1
    edge.2.1 given.files in
    let flag = analyzed d x read.0 read.1 held.0 read.2 read.3 held.1 in
    record {
      gives = given;
      ships = package_ships x held.0 edge.0 held.1 held.2.id edge.1 edge.2;
      marks = package_marked x held.0 edge.0 held.1 held.2.id edge.1 edge.2;
      agrees = record {
        owner = held.0;
        at = ap (λ ps. slice_get ps 0) held.1;
        is = (
          x.files,
          files,
          code_agrees held.0 d.code d.files x.files held.2.code flag given.files digests is.code,
        );
      };
    }
