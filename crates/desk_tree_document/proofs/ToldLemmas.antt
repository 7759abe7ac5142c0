-- A draft from what is reported about the files.
use Rattle.std.proofs.Common.{◌≡◌, ◌∙◌, ℕ, List, [], ◌∷◌, map, sym, ap, refl}
use Rattle.std.specs.Prelude.{Ok, Err}
use Rattle.desk_tree_gather.specs.declared.fault.GatherFault.{GatherFault}
use Rattle.desk_tree_gather.specs.declared.files.SourceFile.{SourceFile}
use Rattle.desk_tree_infos.specs.declared.infos.FileInfo.{FileInfo}
use Rattle.desk_tree_gather.specs.declared.telling.ToldFile.{ToldFile}
use Rattle.desk_tree_gather.specs.Gathering.{gathered}
use Rattle.desk_tree_infos.specs.Readers.{Reader}
use Rattle.desk_tree_gather.specs.Telling.{with_digest, told}
use Rattle.desk_tree_gather.specs.Trees.{Read, tree_of}
use Rattle.desk_tagvalue.specs.declared.drafts.Draft.{Draft}
use Rattle.desk_tagvalue.specs.declared.drafts.DraftFile.{DraftFile}
use Rattle.desk_tree_document.specs.Drafts.{Named, file_of, files_of, draft_with, draft_of}
use Rattle.desk_tree_document.specs.Told.{infos_in, files_told, draft_told}
use Rattle.desk_base.specs.Results.{then_read, followed}

module _ (r : Reader) (tree : List SourceFile) where
  files_told-digested : (infos : List FileInfo)
      → files_told r (map (with_digest tree) infos) ≡ files_of r tree infos
  files_told-digested [] = refl
  files_told-digested (info ∷ infos) = ap (followed (file_of r tree info))
      (files_told-digested infos)

  infos_in-digested : (infos : List FileInfo) → infos_in (map (with_digest tree) infos) ≡ infos
  infos_in-digested [] = refl
  infos_in-digested (info ∷ infos) = ap (λ l. info ∷ l) (infos_in-digested infos)

module _ (r : Reader) (title : Named) (code : List ℕ) where
  abbrev draft_from : List FileInfo → List SourceFile → Read Draft
  draft_from infos tree = then_read (files_of r tree infos)
      (λ drafted. draft_with r title infos drafted code)

  abbrev told_from : Read (List ToldFile) → Read Draft
  told_from x = then_read x (λ ts. draft_told r title ts code)

  draft_told-digested : (tree : List SourceFile) (infos : List FileInfo)
      → draft_told r title (map (with_digest tree) infos) code ≡ draft_from infos tree
  draft_told-digested tree infos = λ i. then_read (files_told-digested r tree infos i)
      (λ drafted. draft_with r title (infos_in-digested r tree infos i) drafted code)

  by_told : (g : Read (List FileInfo)) (t : Read (List SourceFile)) (x : Read (List ToldFile))
      → then_read g (λ infos. then_read t (λ tree. Ok (map (with_digest tree) infos))) ≡ x
      → then_read g (λ infos. then_read t (λ tree. draft_from infos tree)) ≡ told_from x
  by_told (Ok infos) (Ok tree) x is = sym (draft_told-digested tree infos) ∙ ap told_from is
  by_told (Ok infos) (Err fault) x is = ap told_from is
  by_told (Err fault) t x is = ap told_from is

  -- the draft of a tree is the one from what is reported about it
  draft_of-told : (files : List SourceFile) (x : Read (List ToldFile)) → told r files ≡ x
      → draft_of r files title code ≡ told_from x
  draft_of-told files x is = by_told (gathered r files) (tree_of files) x is

  pub draft_found : (files : List SourceFile) (ts : List ToldFile) (fs : List DraftFile)
      (infos : List FileInfo) → told r files ≡ Ok ts → files_told r ts ≡ Ok fs → infos ≡ infos_in ts
      → draft_with r title infos fs code ≡ draft_of r files title code
  draft_found files ts fs infos is drafted same =
      ap (λ l. draft_with r title l fs code) same
      ∙ sym (draft_of-told files (Ok ts) is
      ∙ ap (λ x. then_read x (λ d. draft_with r title (infos_in ts) d code)) drafted)

  pub draft_untold : (files : List SourceFile) (fault : GatherFault) → told r files ≡ Err fault
      → draft_of r files title code ≡ Err fault
  draft_untold files fault is = draft_of-told files (Err fault) is

  pub draft_unjoined : (files : List SourceFile) (ts : List ToldFile) (fault : GatherFault)
      → told r files ≡ Ok ts → files_told r ts ≡ Err fault → draft_of r files title code ≡ Err fault
  draft_unjoined files ts fault is drafted =
      draft_of-told files (Ok ts) is
      ∙ ap (λ x. then_read x (λ d. draft_with r title (infos_in ts) d code)) drafted
