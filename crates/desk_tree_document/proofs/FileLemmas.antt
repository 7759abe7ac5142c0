-- The files of a draft, one after another.
use Rattle.std.proofs.Common.{◌≡◌, ◌∙◌, ℕ, ◌+◌, ◌<◌, List, [], ◌∷◌, ◌++◌, length, get_or, drop, map, ap, refl}
use Rattle.std.specs.Prelude.{◌||◌, Ok, Err}
use Rattle.std.specs.List.{list_any}
use Rattle.std.proofs.lemmas.List.{drop_more}
use Rattle.desk_tree_gather.specs.declared.fault.GatherFault.{GatherFault}
use Rattle.desk_tree_infos.specs.declared.infos.FileInfo.{FileInfo}
use Rattle.desk_tree_gather.specs.declared.telling.ToldFile.{ToldFile}
use Rattle.desk_tree_infos.specs.Readers.{Reader}
use Rattle.desk_tree_infos.specs.Sharing.{OutlineText, outline_of}
use Rattle.desk_tagvalue.specs.declared.drafts.DraftFile.{DraftFile}
use Rattle.desk_tree_document.specs.Drafts.{is_bare}
use Rattle.desk_tree_document.specs.Told.{file_told, files_told}
use Rattle.desk_base.specs.Results.{followed}
use Rattle.desk_base.proofs.Results.{onto, onto-followed}

module _ (r : Reader) (done : List DraftFile) (ts : List ToldFile) (i : ℕ) (t : ToldFile)
    (within : i < length ts) where
  stepped : onto done (files_told r (drop i ts))
      ≡ onto done (followed (file_told r (get_or ts i t)) (files_told r (drop (i + 1) ts)))
  stepped = ap (λ l. onto done (files_told r l)) (drop_more ts i t within)

  pub onto-file : (f : DraftFile) → file_told r (get_or ts i t) ≡ Ok f
      → onto done (files_told r (drop i ts))
      ≡ onto (done ++ f ∷ []) (files_told r (drop (i + 1) ts))
  onto-file f is = stepped ∙ ap (λ x. onto done (followed x (files_told r (drop (i + 1) ts)))) is
      ∙ onto-followed done f (files_told r (drop (i + 1) ts))

  pub onto-fault : (fault : GatherFault) → file_told r (get_or ts i t) ≡ Err fault
      → onto done (files_told r (drop i ts)) ≡ Err fault
  onto-fault fault is = stepped
      ∙ ap (λ x. onto done (followed x (files_told r (drop (i + 1) ts)))) is

-- whether some file has no licence, from their outlines
pub bare-outlined : (infos : List FileInfo)
    → list_any (λ (o : OutlineText). o.no_licence) (map outline_of infos) ≡ list_any is_bare infos
bare-outlined [] = refl
bare-outlined (info ∷ infos) = ap (λ b. is_bare info || b) (bare-outlined infos)
