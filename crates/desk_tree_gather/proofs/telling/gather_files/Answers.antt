use Rattle.std.proofs.Common.{◌≡◌, List, subst}
use Rattle.std.specs.Prelude.{IfOk, Ok}
use Rattle.desk_tree_infos.specs.Folders.{Holds}
use Rattle.desk_tree_infos.specs.Tomls.{TomlText}
use Rattle.desk_tree_gather.specs.Tomls.{tomls_of}
use Rattle.desk_tree_gather.specs.Trees.{tree_of}
use Rattle.desk_tree_gather.specs.Shown.{Gives, left_in}
use Rattle.desk_tree_gather.proofs.TellingLemmas.{told_found}
use Rattle.desk_tree_gather.proofs.telling.gather_files.Goals as goal

pub returns : goal.returns
returns c = λ r right.
    let tree = left_in c.in-Ok.tree in
    let has = subst (Gives (tree_of c.args.files.items) left_in) c.in-Ok.is c.in_ok-tree.ensures in
    let found = subst (λ x. IfOk x
    (λ folders. (tomls : List TomlText) × (tomls_of r tree ≡ Ok tomls) × Holds tomls folders))
    c.in-Ok-2.is (c.in_ok-folders.ensures.ok r right) in
    subst (λ x. IfOk c.told_in.result (Gives x (λ told. told)))
    (told_found r c.args.files.items tree found.0 has found.1)
    (c.told_in.ensures r right found.0 found.2)
