use Rattle.std.proofs.Common.{sym, subst}
use Rattle.std.specs.Prelude.{IfOk, Vec}
use Rattle.std.specs.declared.alloc.Global.{Global}
use Rattle.desk_tree_infos.specs.declared.folders.Folders.{Folders}
use Rattle.desk_tree_gather.specs.declared.telling.Digested.{Digested}
use Rattle.desk_tree_gather.specs.Digests.{all_told}
use Rattle.desk_tree_infos.specs.Folders.{Holds}
use Rattle.desk_tree_gather.specs.Shown.{Gives, left_in}
use Rattle.desk_tree_gather.specs.Telling.{told_in}
use Rattle.desk_tree_gather.proofs.telling.files_told.Goals as goal

pub returns : goal.returns
returns c = λ r right tomls holds.
    subst (λ (f : Folders). IfOk c.each_told.result
    (Gives (told_in r tomls (left_in c.args.tree))
    (λ (v : Vec Digested Global). all_told f.all.items v.items)))
    c.in_ok-trail.ensures
    (c.each_told.ensures r right tomls (subst (Holds tomls) (sym c.in_ok-trail.ensures) holds))
