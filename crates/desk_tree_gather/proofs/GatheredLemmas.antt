-- The parts of what is gathered, put together.
use Rattle.std.proofs.Common.{◌≡◌, ◌∙◌, List, sym, ap, subst}
use Rattle.std.specs.Prelude.{Result, Ok, Err}
use Rattle.desk_tree_gather.specs.declared.fault.GatherFault.{GatherFault}
use Rattle.desk_tree_gather.specs.declared.files.SourceFile.{SourceFile}
use Rattle.desk_tree_infos.specs.declared.folders.Folders.{Folders}
use Rattle.desk_tree_infos.specs.Readers.{Reader, Stated}
use Rattle.desk_tree_gather.specs.Shown.{Gives}
use Rattle.desk_tree_gather.specs.Trees.{Read, tree_of}
use Rattle.desk_tree_infos.specs.Tomls.{TomlText}
use Rattle.desk_tree_gather.specs.Tomls.{tomls_of}
use Rattle.desk_tree_infos.specs.Information.{counting}
use Rattle.desk_tree_gather.specs.Gathering.{holder, stated_in, info_with, info_of, infos_of, gathered}
use Rattle.desk_base.specs.Results.{then_read}

pub gathered_fails : (r : Reader) (files tree : List SourceFile) (fault : GatherFault)
    → tree_of files ≡ Ok tree → tomls_of r tree ≡ Err fault → gathered r files ≡ Err fault
gathered_fails r files tree fault has is =
    ap (λ t. then_read t (λ x. then_read (tomls_of r x) (infos_of r x))) has
    ∙ ap (λ t. then_read t (infos_of r tree)) is

pub gathered_found : (r : Reader) (files tree : List SourceFile) (tomls : List TomlText)
    → tree_of files ≡ Ok tree → tomls_of r tree ≡ Ok tomls
    → infos_of r tree tomls ≡ gathered r files
gathered_found r files tree tomls has is =
    sym (ap (λ t. then_read t (λ x. then_read (tomls_of r x) (infos_of r x))) has
    ∙ ap (λ t. then_read t (infos_of r tree)) is)

pub info_fails : (r : Reader) (tomls : List TomlText) (tree : List SourceFile) (file : SourceFile)
    (fault : GatherFault) → stated_in r (holder tree file) ≡ Err fault
    → info_of r tomls tree file ≡ Err fault
info_fails r tomls tree file fault is = ap (λ s. then_read s
    (λ own. Ok (info_with file.path (counting r tomls file.path) own))) is

pub info_found : (r : Reader) (tomls : List TomlText) (tree : List SourceFile) (file : SourceFile)
    (own : Stated) → stated_in r (holder tree file) ≡ Ok own
    → info_of r tomls tree file ≡ Ok (info_with file.path (counting r tomls file.path) own)
info_found r tomls tree file own is = ap (λ s. then_read s
    (λ x. Ok (info_with file.path (counting r tomls file.path) x))) is

-- what a call gives with the annotations of a trail, if that still has the same folders
module _ {A B : Type 0} (read : Read B) (show : Folders → A → B) (was now : Folders)
    (same : now ≡ was) (x : Result A GatherFault) (gives : Gives read (show now) x) where
  pub gives_at : (y : A) → x ≡ Ok y → read ≡ Ok (show was y)
  gives_at y is = subst (Gives read (show now)) is gives ∙ ap (λ f. Ok (show f y)) same

  pub gives_fault : (fault : GatherFault) → x ≡ Err fault → read ≡ Err fault
  gives_fault fault is = subst (Gives read (show now)) is gives
