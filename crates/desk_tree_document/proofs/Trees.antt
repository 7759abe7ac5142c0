-- The digests of a tree's draft are SHA1s.
use Rattle.std.proofs.Common.{◌≡◌, ℕ, List, [], ◌∷◌, refl, subst, Result, Ok, Err}
use Rattle.std.specs.Prelude.{All}
use Rattle.std.proofs.lemmas.List.Elements.{All-nil, All-cons}
use Rattle.sha1.specs.Sha1.{sha1}
use Rattle.desk_base.specs.Results.{then_read, followed}
use Rattle.desk_tree_document.specs.Drafts.{Named, draft_of, draft_with, file_of, files_of}
use Rattle.desk_tree_document.specs.Drafts.{package_licences, package_notices}
use Rattle.desk_tree_document.specs.Texts.{copyright_of, expression_read}
use Rattle.desk_tree_document.proofs.Digests.{length-sha1, sha1_bytes}
use Rattle.desk_tree_document.proofs.Ships.{ships_draft}
use Rattle.desk_tree_document.specs.Shipping.{IsDigest, IsTextOf, ShipsWhenRead}
use Rattle.desk_tree_gather.specs.Gathering.{gathered}
use Rattle.desk_tree_infos.specs.Readers.{Reader}
use Rattle.desk_tree_gather.specs.Trees.{bytes_of, tree_of}
use Rattle.desk_tree_gather.specs.declared.files.SourceFile.{SourceFile}
use Rattle.desk_tree_infos.specs.declared.infos.FileInfo.{FileInfo}
use Rattle.desk_tagvalue.specs.declared.drafts.Draft.{Draft}
use Rattle.desk_tagvalue.specs.declared.drafts.DraftFile.{DraftFile}

-- what is read has been read in turn

first_read : {A B F : Type 0} (r : Result A F) (next : A → Result B F) (y : B)
    → then_read r next ≡ Ok y → (x : A) × (next x ≡ Ok y) × (r ≡ Ok x)
first_read (Ok x) next y is = (x, is, refl)
first_read (Err fault) next y is = absurd cc

both_read : {A F : Type 0} (r : Result A F) (more : Result (List A) F) (ys : List A)
    → followed r more ≡ Ok ys → (x : A) × (xs : List A) × (x ∷ xs ≡ ys) × (r ≡ Ok x)
    × (more ≡ Ok xs)
both_read (Ok x) (Ok xs) ys is = (x, xs, cc, refl, refl)
both_read (Ok x) (Err fault) ys is = absurd cc
both_read (Err fault) more ys is = absurd cc

file_digest : (r : Reader) (tree : List SourceFile) (info : FileInfo) (f : DraftFile)
    → file_of r tree info ≡ Ok f → IsDigest f
file_digest r tree info f is =
    let message = bytes_of tree info.path in
    let made : List ℕ → DraftFile =
    λ concluded. record {
      path = info.path;
      digest = sha1 message;
      concluded = concluded;
      copyright = copyright_of info.notices;
    } in
    let read = first_read (expression_read r.reading info.licences)
    (λ concluded. Ok (made concluded)) f is in
    let same : made read.0 ≡ f = cc in
    subst IsDigest same (length-sha1 message, sha1_bytes message)

file_digests : (r : Reader) (tree : List SourceFile) (infos : List FileInfo) (fs : List DraftFile)
    → files_of r tree infos ≡ Ok fs → All IsDigest fs
file_digests r tree [] fs is = let none : [] ≡ fs = cc in
    subst (All IsDigest) none (All-nil IsDigest)
file_digests r tree (info ∷ infos) fs is =
    let read = both_read (file_of r tree info) (files_of r tree infos) fs is in
    subst (All IsDigest) read.2 (All-cons IsDigest read.0 read.1
    (file_digest r tree info read.0 read.3) (file_digests r tree infos read.1 read.4))

draft_digests : (r : Reader) (title : Named) (infos : List FileInfo) (fs : List DraftFile)
    (code : List ℕ) (d : Draft) → All IsDigest fs → draft_with r title infos fs code ≡ Ok d
    → All IsDigest d.files
draft_digests r title infos fs code d digests is =
    let made : List ℕ → Draft = λ concluded. record {
      name = title.name;
      namespace = title.namespace;
      created = title.created;
      code = code;
      concluded = concluded;
      copyright = copyright_of (package_notices infos);
      files = fs;
    } in
    let read = first_read (expression_read r.reading (package_licences infos))
    (λ concluded. Ok (made concluded)) d is in
    let same : made read.0 ≡ d = cc in
    subst (λ (x : Draft). All IsDigest x.files) same digests

tree_digests : (r : Reader) (files : List SourceFile) (title : Named) (code : List ℕ) (d : Draft)
    → draft_of r files title code ≡ Ok d → All IsDigest d.files
tree_digests r files title code d is =
    let infos = first_read (gathered r files)
    (λ infos. then_read (tree_of files)
    (λ tree. then_read (files_of r tree infos) (λ drafted. draft_with r title infos drafted code)))
    d is in
    let tree = first_read (tree_of files)
    (λ tree. then_read (files_of r tree infos.0)
    (λ drafted. draft_with r title infos.0 drafted code)) d infos.1 in
    let drafted = first_read (files_of r tree.0 infos.0)
    (λ drafted. draft_with r title infos.0 drafted code) d tree.1 in
    draft_digests r title infos.0 drafted.0 code d
    (file_digests r tree.0 infos.0 drafted.0 drafted.2) drafted.1

pub ships_tree : (r : Reader) (files : List SourceFile) (title : Named) (d : Draft) (text : List ℕ)
    → draft_of r files title d.code ≡ Ok d → IsTextOf d text → ShipsWhenRead d text
ships_tree r files title d text is = ships_draft d text (tree_digests r files title d.code d is)
