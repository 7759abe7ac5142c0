-- The notices of files, one file after another.
use Rattle.std.proofs.Common.{◌≡◌, ◌∙◌, ℕ, List, ◌∷◌, ◌++◌, ap, map, refl, subst, sym, append_assoc}
use Rattle.desk_tree_gather.specs.declared.files.SourceFile.{SourceFile}
use Rattle.desk_tree_gather.specs.Trees.{bytes_of}
use Rattle.desk_tree_infos.specs.Firsts.{FirstTexts}
use Rattle.desk_credits.specs.declared.notice.Notice.{Notice}
use Rattle.desk_credits.specs.Finding.{FindsIn}
use Rattle.desk_credits.specs.Notices.{UsesIn, UsesOf, stated_notice, with_notices}
use Rattle.desk_credits.proofs.NoticeLemmas.{with_notices-append}

-- the notices that a file has first, and then those of its lines, are its uses
pub uses_here : (tree : List SourceFile) (file : FirstTexts) (old stated new : List Notice)
    (texts : List (List ℕ)) (bytes : List ℕ)
    → texts ≡ file.texts → stated ≡ with_notices old (map stated_notice texts)
    → bytes ≡ bytes_of tree file.path
    → (found : List Notice) × FindsIn file.path bytes found × (new ≡ with_notices stated found)
    → (uses : List Notice) × UsesOf tree file uses × (new ≡ with_notices old uses)
uses_here tree file old stated new texts bytes same adds there (found, finds, more) =
    let own = map stated_notice file.texts in (
      own ++ found,
      (found, subst (λ bs. FindsIn file.path bs found) there finds, refl),
      more ∙ ap (λ ns. with_notices ns found) (adds
          ∙ ap (λ ts. with_notices old (map stated_notice ts)) same)
          ∙ sym (with_notices-append old own found),
    )

-- the uses of the files behind one more file complete those of all files
pub uses_on : (tree : List SourceFile) (all rest : List FirstTexts) (file : FirstTexts)
    (before here : List Notice)
    → ((more : List Notice) → UsesIn tree (file ∷ rest) more → UsesIn tree all (before ++ more))
    → UsesOf tree file here
    → (more : List Notice) → UsesIn tree rest more → UsesIn tree all ((before ++ here) ++ more)
uses_on tree all rest file before here goes is more uses =
    subst (UsesIn tree all) (sym (append_assoc before here more))
    (goes (here ++ more) (here, more, is, refl, uses))
